-- 01, The scan; Status, doubles, gaps; Totals; What is turned down, 10 to 12; 02, 2.3, 2.5: what a call of feed answers.
use Rattle.std.specs.Prelude.{ℕ, ◌*◌, Bool, false, ◌&&◌, List, [], ◌∷◌, map, eqb, ℤ, pos, length, get_or, Ok, Err}
use Rattle.std.proofs.Math.Option.{Option, none, some}
use Rattle.setup.specs.Setup.{hertz, length_of}
use Rattle.setup.specs.declared.Setup.{Setup}
use Rattle.setup.specs.Sensor.{sensor_of}
use Rattle.setup.specs.declared.Sensor.{Sensor}
use Rattle.wire.specs.Fields.{Contents, contents_of, besides_readings}
use Rattle.wire.specs.declared.Fields.{Fields}
use Rattle.gaps.specs.Gaps.{datagrams, gap_between}
use Rattle.gaps.specs.declared.Gap.{Gap}
use Rattle.gaps.specs.declared.Gap.TheVariants.{Missed}
use Rattle.motion.specs.Status.{flagged}
use Rattle.motion.specs.Judgements.{judgements_of}
use Rattle.motion.specs.Totals.{no_axes, kept_by, totals_of}
use Rattle.motion.specs.declared.Judgement.TheVariants.{Fit}
use Rattle.motion.specs.Judgements.{GroupJudgements}
use Rattle.motion.specs.Judgements.{Judgements}
use Rattle.doubles.specs.Doubles.{plus_zero, group_values, total_doubles}
use Rattle.doubles.specs.declared.Values.{Values}
use Rattle.doubles.specs.declared.Values.TheVariants.{Instantaneous}
use Rattle.doubles.specs.declared.TotalDoubles.{TotalDoubles}
use Rattle.doubt.specs.Doubt.{marks_of}
use Rattle.doubt.specs.Doubt.{GyroMarks}
use Rattle.scan.specs.Calls as calls
use Rattle.scan.specs.Calls.{Fed, Report, Run}
use Rattle.scan.specs.Carry as carry
use Rattle.scan.specs.Carry.{Consumer, carrying}
use Rattle.search.specs.Search.{verdict_of}
use Rattle.history.specs.History.{no_history, awaits_first, history_next}
use Rattle.session.specs.Session.{session_with}
use Rattle.admission.specs.Admission.{held_bytes, kept_right, piece_ruling}
use Rattle.history.specs.declared.History.{History}
use Rattle.session.specs.declared.Session.{Session}
use Rattle.feeding.specs.declared.Datagram.{Datagram}
use Rattle.feeding.specs.declared.Answer.{Answer}
use Rattle.feeding.specs.declared.Answer.TheVariants.{Datagram as HandedOut, Waiting, Refused}
use Rattle.feeding.specs.declared.Reply.{Reply}
use Rattle.refusals.specs.Refusals.{number_of, Ruling}
use Rattle.refusals.specs.declared.Refusal.{Refusal}

-- ---- what a datagram does to a session, and what comes back with it

-- by what an accepted setup says of its sensor
module _ (s : Sensor) where
  -- a datagram as it comes back, of its contents; gap: what lies before it; h: the history behind it
  unfoldable pub datagram_with : Gap → Contents → History → Datagram
  datagram_with gap c h =
      record {
        gyro = get_or c.readings 0 [];
        accelerometer = get_or c.readings 1 [];
        inclinometer = get_or c.readings 2 [];
        fields = besides_readings c;
        flagged = map flagged c.statuses;
        judgements = judgements_of c.statuses;
        values = group_values s.units s.shifts c.readings;
        gap = gap;
        totals = totals_of h.axes;
        doubles = total_doubles s.shifts h.axes;
        doubtful = marks_of h.doubt;
      }

  -- the history behind a datagram; first: whether it counts as a first one
  unfoldable pub history_after : Bool → History → List ℕ → History
  history_after first h d =
      let c : Contents = contents_of s.row d in
      history_next (hertz s.rate) (kept_by s.row s.units) first h c.readings c.statuses c.counter

  -- what comes back with it
  unfoldable pub tell : Bool → History → List ℕ → Datagram
  tell first h d =
      let c : Contents = contents_of s.row d in
      datagram_with (gap_between s.rate first h.previous c.counter) c (history_after first h d)

module _ (u : Setup) where
  -- what refusal 10 asks of the history, n bytes having been handed out
  unfoldable pub history_right : ℕ → History → Bool
  history_right n h = eqb n (length_of u * h.datagrams.0) && kept_right u h

  abbrev pub consumer : Consumer History Datagram
  consumer =
      record { start = no_history; awaits_first = awaits_first; step = history_after (sensor_of u); tell = tell (sensor_of u); admits = history_right }

-- ---- where no datagram is handed out: zeros, unit 0, every axis fit, no total doubtful

abbrev pub no_readings : List ℤ
no_readings = pos 0 ∷ pos 0 ∷ pos 0 ∷ []

abbrev pub no_fields : Fields
no_fields =
    record {
      statuses = 0 ∷ 0 ∷ 0 ∷ [];
      gyro_temperatures = no_readings;
      accelerometer_temperatures = no_readings;
      inclinometer_temperatures = no_readings;
      temperature_statuses = 0 ∷ 0 ∷ 0 ∷ [];
      aux = pos 0;
      aux_status = 0;
      counter = 0;
      latency = 0;
    }

abbrev pub all_fit : Judgements
all_fit = record { gyro = fits; accelerometer = fits; inclinometer = fits }
  where
    fits : GroupJudgements
    fits = record { x = Fit; y = Fit; z = Fit }

abbrev pub no_values : Values
no_values = Instantaneous plus_zero plus_zero plus_zero

abbrev pub no_doubles : TotalDoubles
no_doubles =
    record {
      gyro_x = plus_zero;
      gyro_y = plus_zero;
      gyro_z = plus_zero;
      accelerometer_x = plus_zero;
      accelerometer_y = plus_zero;
      accelerometer_z = plus_zero;
      inclinometer_x = plus_zero;
      inclinometer_y = plus_zero;
      inclinometer_z = plus_zero;
    }

abbrev pub no_marks : GyroMarks
no_marks = record { x = false; y = false; z = false }

unfoldable pub no_datagram : Datagram
no_datagram =
    record {
      gyro = no_readings;
      accelerometer = no_readings;
      inclinometer = no_readings;
      fields = no_fields;
      flagged = 0 ∷ 0 ∷ 0 ∷ [];
      judgements = all_fit;
      values = record { gyro = no_values; accelerometer = no_values; inclinometer = no_values };
      gap = Missed (datagrams 0);
      totals = totals_of no_axes;
      doubles = no_doubles;
      doubtful = no_marks;
    }

-- ---- a session as the scan's state: the bytes and counts of the scan, and the history beside them

abbrev pub SessionState : Type 0
SessionState = carry.Session History

abbrev pub state_of : Session → SessionState
state_of s =
    record {
      scan =
          record { held = held_bytes s; handed = length_of s.setup * s.history.datagrams.0; passed = s.passed; fed = s.fed };
      carried = s.history;
    }

-- and back
abbrev pub session_of : Setup → SessionState → Session
session_of u t = session_with u t.carried t.scan.passed t.scan.fed t.scan.held

-- ---- a call

-- what is told: a refusal takes no bytes and returns the session as given
abbrev pub reply_by : Session → calls.Answer Datagram → ℕ → SessionState → Reply
reply_by s (calls.Answer.datagram o) k t = record { answer = HandedOut; taken = k; session = session_of s.setup t; datagram = o }
reply_by s calls.Answer.waiting k t = record { answer = Waiting; taken = k; session = session_of s.setup t; datagram = no_datagram }
reply_by s (calls.Answer.refused e) k t = record { answer = Refused e; taken = 0; session = s; datagram = no_datagram }

abbrev pub reply_of : Session → Fed SessionState Datagram → Reply
reply_of s c = reply_by s c.answer c.taken c.next

-- a refused call
abbrev pub refusal : Session → Refusal → Reply
refusal s e = record { answer = Refused e; taken = 0; session = s; datagram = no_datagram }

-- A call of feed: refused by 10, 11 or 12, or made on the scan's bytes and counts, with the history beside them
abbrev pub feed_by : Ruling → Session → List ℕ → Reply
feed_by (Err e) s p = refusal s e
feed_by (Ok accepted) s p =
    reply_of s (carrying (consumer s.setup) (state_of s) (calls.call (verdict_of s.setup) (state_of s).scan p))

unfoldable pub feed_of : Session → List ℕ → Reply
feed_of s p = feed_by (piece_ruling s (length p)) s p

-- ---- calls one after the other

-- what an answer says, with the datagram that came back beside it: 01's three kinds, and the number of a refusal
abbrev pub answer_of : Answer → Datagram → calls.Answer Datagram
answer_of HandedOut o = calls.Answer.datagram o
answer_of Waiting o = calls.Answer.waiting
answer_of (Refused e) o = calls.Answer.refused e

-- the number of a refusal, none where a datagram was handed out or the piece ended
abbrev pub answer_number : Answer → Option ℕ
answer_number HandedOut = none
answer_number Waiting = none
answer_number (Refused e) = some (number_of e)

abbrev pub call_by : Reply → Fed Session Datagram
call_by r = record { answer = answer_of r.answer r.datagram; taken = r.taken; next = r.session }

abbrev pub call : Session → List ℕ → Fed Session Datagram
call s p = call_by (feed_of s p)

-- A list of pieces fed from a session: what was handed out in order, a report of each piece, the session at the end
abbrev pub Calls : Session → List (List ℕ) → List Datagram → List Report → Session → Type 0
Calls = Run call
