-- What the requests ask of feeding (00-mission, demands 2 and 3; 01, How firmly it is promised, Totals; 02, 2.5), as types over the rules:
-- every call on any session; and, of a setup, lists of pieces fed in turn.
use Rattle.std.specs.Prelude.{ℕ, suc, ◌+◌, ◌-◌, ◌*◌, ◌^◌, ◌≤◌, ◌<◌, min, Bool, true, false, cond, List, [], ◌∷◌, ◌++◌, map, ◌≡◌, eqb, ℤ, pos, nat_abs, ◌-ℤ◌, ◌*ℤ◌, length, take, drop, get_or, replicate}
use Rattle.std.proofs.Math.Option.{none, some}
use Rattle.std.specs.Float.{nan}
use Rattle.std.specs.Float.Ieee.Exact.{HasValue}
use Rattle.integers.specs.Rounding.{floor}
use Rattle.setup.specs.Setup.{ruling_number, setup_number, length_of}
use Rattle.setup.specs.declared.Setup.{Setup}
use Rattle.wire.specs.Fields.{fields_of, besides_readings}
use Rattle.gaps.specs.Gaps.{datagrams, missed_in, missed_at}
use Rattle.motion.specs.Status.{fit, flagged}
use Rattle.motion.specs.Judgements.{JudgedBy}
use Rattle.motion.specs.declared.Judgement.TheVariants.{Fit}
use Rattle.motion.specs.Judgements.{GroupJudgements}
use Rattle.motion.specs.Totals.{no_axis, Sighting, axis_step, keeps, axis_at, total_at, fit_readings, fit_before, reading_of, Close, total_of, after}
use Rattle.doubles.specs.Doubles.{negative, plus_zero, unit_number_in, doubles_in, values_for, double_at}
use Rattle.doubt.specs.Doubt.{added, no_doubt, doubt_step, doubt_at, mark_at}
use Rattle.doubt.specs.Slipped.{Counted, samples_over, AllUnfit, MaySlip, TrueAngles, SampledAngles, FirstFit}
use Rattle.scan.specs.Scan.{scan, Undecided}
use Rattle.scan.specs.Calls.{datagram, waiting, refused, Report}
use Rattle.scan.specs.Stream.{stream, reports, NoTen, Begins, Among}
use Rattle.scan.specs.Carry.{told}
use Rattle.search.specs.Search.{candidate_of, is_datagram, limits_of, verdict_of}
use Rattle.history.specs.History.{no_history, awaits_first}
use Rattle.session.specs.Session.{opening}
use Rattle.admission.specs.Admission.{held_bytes}
use Rattle.admission.specs.SoundSession.{PassesTen}
use Rattle.session.specs.declared.Session.{Session}
use Rattle.feeding.specs.declared.Datagram.{Datagram}
use Rattle.feeding.specs.declared.Reply.{Reply}
use Rattle.feeding.specs.Feed.{consumer, no_datagram, refusal, feed_of, call, Calls}
use Rattle.feeding.specs.OneLength.{OneLength}
use Rattle.refusals.specs.declared.Refusal.TheVariants.{SessionUnsound, PieceTooLong, StreamTooLong}
use Rattle.refusals.specs.declared.Refusal.{Refusal}

-- ---- what the demands speak of

-- the stream: the pieces within the limits of a setup's sessions, joined
abbrev pub stream_of : Setup → List (List ℕ) → List ℕ
stream_of u ps = stream (limits_of u) 0 ps

-- a list of pieces fed in turn to the session that opening a setup gives
abbrev pub FedInTurn : Setup → List (List ℕ) → List Datagram → List Report → Session → Type 0
FedInTurn u ps os rs t = Calls (opening u).session ps os rs t

module _ (u : Setup) where
  -- what comes back with each of these datagrams, handed out in this order to a fresh session
  abbrev pub answers_for : List (List ℕ) → List Datagram
  answers_for ds = told (consumer u) no_history ds

  -- what an axis of a group sees of a datagram: its own reading, and whether the group's status byte leaves it fit
  abbrev pub sighting : ℕ → ℕ → List ℕ → Sighting
  sighting group axis d =
      record {
        fit = fit (get_or (fields_of u.identifier d).statuses group 0) axis;
        reading = get_or (get_or (fields_of u.identifier d).readings group []) axis (pos 0);
      }

  abbrev pub sightings : ℕ → ℕ → List (List ℕ) → List Sighting
  sightings group axis ds = map (sighting group axis) ds

  -- the shift of a group
  abbrev pub shift_of : ℕ → ℕ
  shift_of group = get_or u.shifts group 0

-- a list of pieces can be fed in turn
abbrev pub CanBeFed : Setup → List (List ℕ) → Type 0
CanBeFed u ps = (os : List Datagram) × (rs : List Report) × (t : Session) × FedInTurn u ps os rs t

-- whatever datagrams among bytes at which none begins the stream is, these are handed out, in order, each with what the rules give for it
abbrev pub HandsOut : Setup → List (List ℕ) → List Datagram → Type 0
HandsOut u ps os = (es : List (List ℕ)) → Among (is_datagram u) (stream_of u ps) es → os ≡ answers_for u es

-- in the answer o the double of an axis is its total over 2 ^ shift, without any rounding: `HasValue f negative n d` says that the double f is exactly
-- n / d, with that sign
abbrev pub TotalExact : Setup → ℕ → ℕ → Datagram → Type 0
TotalExact u group axis o =
    HasValue (double_at o.doubles group axis) (negative (total_at o.totals group axis).steps) (nat_abs (total_at o.totals group axis).steps)
    (2 ^ shift_of u group)

-- ---- what comes back with a datagram

-- in the answer o, of the datagram d: its fields, how many channels its statuses flag, the judgements of each group by its status byte, and what was
-- missed between it and the one before, whose counter was `previous`; first: whether it counts as a first one
pub record Contained (u : Setup) (first : Bool) (previous : ℕ) (d : List ℕ) (o : Datagram) : Type 0 where
  pub readings : o.gyro ∷ o.accelerometer ∷ o.inclinometer ∷ [] ≡ (fields_of u.identifier d).readings
  pub fields : o.fields ≡ besides_readings (fields_of u.identifier d)
  pub flags : o.flagged ≡ map flagged (fields_of u.identifier d).statuses
  pub judgements : JudgedBy (fields_of u.identifier d).statuses o.judgements
  pub gap : missed_in o.gap ≡ missed_at u.rate first previous (fields_of u.identifier d).counter

-- of an axis of a group: the group's unit, and each double its reading, or its total, over 2 ^ shift, without any rounding
pub record Exact (u : Setup) (d : List ℕ) (o : Datagram) (group axis : ℕ) : Type 0 where
  pub unit : unit_number_in (values_for o.values group) ≡ get_or u.units group 0
  pub value :
      HasValue (get_or (doubles_in (values_for o.values group)) axis plus_zero) (negative (sighting u group axis d).reading)
      (nat_abs (sighting u group axis d).reading) (2 ^ shift_of u group)
  pub double : TotalExact u group axis o

-- where no datagram is handed out: zeros and unit 0 in its place, every axis fit, no total doubtful
pub record Zeros (o : Datagram) : Type 0 where
  pub readings : o.gyro ∷ o.accelerometer ∷ o.inclinometer ∷ [] ≡ replicate 3 (replicate 3 (pos 0))
  pub statuses : o.fields.statuses ≡ replicate 3 0
  pub temperatures :
      o.fields.gyro_temperatures ∷ o.fields.accelerometer_temperatures ∷ o.fields.inclinometer_temperatures ∷ []
      ≡ replicate 3 (replicate 3 (pos 0))
  pub temperature_statuses_lem : o.fields.temperature_statuses ≡ replicate 3 0
  pub aux : (o.fields.aux ≡ pos 0) × (o.fields.aux_status ≡ 0)
  pub counter : (o.fields.counter ≡ 0) × (o.fields.latency ≡ 0)
  pub flags : o.flagged ≡ replicate 3 0
  pub judgements :
      let fits : GroupJudgements = record { x = Fit; y = Fit; z = Fit } in
      o.judgements ≡ record { gyro = fits; accelerometer = fits; inclinometer = fits }
  pub gap : missed_in o.gap ≡ some (datagrams 0)
  pub unit : (group : ℕ) → group < 3 → unit_number_in (values_for o.values group) ≡ 0
  pub value : (group axis : ℕ) → group < 3 → axis < 3 → get_or (doubles_in (values_for o.values group)) axis nan ≡ plus_zero
  pub total : (group axis : ℕ) → group < 3 → axis < 3 → total_at o.totals group axis ≡ total_of no_axis
  pub double : (group axis : ℕ) → group < 3 → axis < 3 → double_at o.doubles group axis ≡ plus_zero
  pub unmarked : (axis : ℕ) → axis < 3 → mark_at o.doubtful axis ≡ false

-- ---- every call

-- a call on a session that 10 doesn't turn down, of which r comes back
pub record CallKept (s : Session) (r : Reply) : Type 0 where
  -- the session that comes back isn't turned down by 10 either, and is of the same setup; its array keeps its 64 bytes
  pub sound : PassesTen r.session
  pub setup : r.session.setup ≡ s.setup
  pub long : length s.held ≡ 64 → length r.session.held ≡ 64
  -- bytes fed are the bytes taken, and = datagram length × datagrams + bytes passed over + bytes held
  pub fed : r.session.fed ≡ s.fed + r.taken
  pub sum : length_of s.setup * r.session.history.datagrams.0 + r.session.passed + r.session.count ≡ r.session.fed

-- one that hands out a datagram
pub record CallHands (s : Session) (p : List ℕ) (r : Reply) : Type 0 where
  -- the bytes held and those taken are the bytes passed over, the datagram, and the bytes held afterwards
  pub over : List ℕ
  pub found : List ℕ
  pub bytes : held_bytes s ++ take r.taken p ≡ over ++ (found ++ held_bytes r.session)
  pub taken : r.taken ≤ length p
  pub passed : r.session.passed ≡ s.passed + length over
  -- it is acceptable; at none of the bytes passed over does an acceptable one begin in the bytes held and the piece, and each of them was decided:
  -- it begins none, or as many bytes are there as the datagram has that it begins
  pub acceptable : is_datagram s.setup found ≡ true
  pub none_begins : (k : ℕ) → k < length over → Begins (is_datagram s.setup) (drop k (held_bytes s ++ p)) → ⊥
  pub decided : (k : ℕ) → k < length over → candidate_of s.setup (get_or (held_bytes s ++ p) k 0) ≤ length (held_bytes s ++ p) - k
  -- its own fields and judgements, what was missed since the datagram before it, and exact doubles
  pub contained : Contained s.setup (awaits_first s.history) s.history.previous found r.datagram
  pub exact : (group axis : ℕ) → group < 3 → axis < 3 → Exact s.setup found r.datagram group axis
  -- the session counts it and keeps its counter
  pub counted : r.session.history.datagrams.0 ≡ s.history.datagrams.0 + 1
  pub previous : r.session.history.previous ≡ (fields_of s.setup.identifier found).counter
  -- it moves each axis that keeps a total on by the rule for one axis, the others being 0 and not begun; its totals are those of the axes then
  pub axes :
      (group axis : ℕ) → group < 3 → axis < 3
      → axis_at r.session.history.axes group axis
      ≡ cond (keeps s.setup group) (axis_step (axis_at s.history.axes group axis) (sighting s.setup group axis found)) no_axis
  pub totals :
      (group axis : ℕ) → group < 3 → axis < 3 → total_at r.datagram.totals group axis ≡ total_of (axis_at r.session.history.axes group axis)
  -- and the sum and the mark of each gyro axis by the rule for one axis, which where the gyro keeps no totals are 0 and none; the marks that come back are
  -- those then (02, 2.5)
  pub doubt :
      (axis : ℕ) → axis < 3
      → doubt_at r.session.history.doubt axis
      ≡ cond (keeps s.setup 0)
      (doubt_step s.setup.rate (axis_at s.history.axes 0 axis).begun (sighting s.setup 0 axis found).fit (doubt_at s.history.doubt axis)
      (added (awaits_first s.history) s.history.previous (fields_of s.setup.identifier found).counter))
      no_doubt
  pub marks : (axis : ℕ) → axis < 3 → mark_at r.datagram.doubtful axis ≡ (doubt_at r.session.history.doubt axis).marked

-- one that waits for more
pub record CallWaits (s : Session) (p : List ℕ) (r : Reply) : Type 0 where
  -- the whole piece is taken: the bytes held and the piece are the bytes passed over and the bytes held afterwards
  pub over : List ℕ
  pub bytes : held_bytes s ++ p ≡ over ++ held_bytes r.session
  pub taken : r.taken ≡ length p
  pub passed : r.session.passed ≡ s.passed + length over
  -- at none of those passed over does an acceptable datagram begin, each of them was decided, and nothing is yet of those held
  pub none_begins : (k : ℕ) → k < length over → Begins (is_datagram s.setup) (drop k (held_bytes s ++ p)) → ⊥
  pub decided : (k : ℕ) → k < length over → candidate_of s.setup (get_or (held_bytes s ++ p) k 0) ≤ length (held_bytes s ++ p) - k
  pub undecided : Undecided (verdict_of s.setup) (held_bytes r.session)
  -- what the session keeps of the datagrams is as it was, and zeros stand in the datagram's place
  pub history : r.session.history ≡ s.history
  pub zeros : r.datagram ≡ no_datagram

-- every call, on any session and any piece
pub record EveryCall : Type 0 where
  -- no session that a call returns is turned down by 10, if the one that it was given isn't
  pub kept : (s : Session) → PassesTen s → (p : List ℕ) → CallKept s (feed_of s p)
  -- where a datagram is handed out, and where the call waits
  pub hands :
      (s : Session) → PassesTen s → (p : List ℕ) → (call s p).answer ≡ datagram (feed_of s p).datagram → CallHands s p (feed_of s p)
  pub waits : (s : Session) → PassesTen s → (p : List ℕ) → (call s p).answer ≡ waiting → CallWaits s p (feed_of s p)
  -- in whose answer, and in a refusal's, that place holds zeros and unit 0, every axis fit, no total doubtful
  pub zeros : Zeros no_datagram
  -- what holds only while all datagrams have one length
  pub one_length_lem : OneLength
  -- a call is refused by 10, else by 11, else by 12, and by nothing else; a refusal takes no bytes and returns the session as given
  pub ten : (s : Session) (p : List ℕ) → (PassesTen s → ⊥) → feed_of s p ≡ refusal s SessionUnsound
  pub eleven : (s : Session) (p : List ℕ) → PassesTen s → (limits_of s.setup).piece < length p → feed_of s p ≡ refusal s PieceTooLong
  pub twelve :
      (s : Session) (p : List ℕ) → PassesTen s → length p ≤ (limits_of s.setup).piece → (limits_of s.setup).session < s.fed + length p
      → feed_of s p ≡ refusal s StreamTooLong
  pub no_other :
      (s : Session) (p : List ℕ) → PassesTen s → length p ≤ (limits_of s.setup).piece → s.fed + length p ≤ (limits_of s.setup).session
      → (e : Refusal) → (call s p).answer ≡ refused e → ⊥
  -- what a refused opening gives back is turned down by 10
  pub refused_opening :
      (u : Setup) {n : ℕ} → setup_number u ≡ some n → (p : List ℕ) → feed_of (opening u).session p ≡ refusal (opening u).session SessionUnsound

-- ---- demand 2

pub record Demand2 (u : Setup) : Type 0 where
  -- the session that opening gives isn't turned down by 10, and every list of pieces can be fed to it in turn
  pub opened : PassesTen (opening u).session
  pub fed : (ps : List (List ℕ)) → CanBeFed u ps
  -- the session at the end isn't turned down by 10 either, and is of the same setup
  pub ended :
      {ps : List (List ℕ)} {os : List Datagram} {rs : List Report} {t : Session} → FedInTurn u ps os rs t
      → PassesTen t × (t.setup ≡ u)
  -- every stream is acceptable datagrams, whole and in order, among bytes at which none begins, in one way only
  pub parted :
      (v : List ℕ)
      → (es : List (List ℕ)) × Among (is_datagram u) v es × ((ds : List (List ℕ)) → Among (is_datagram u) v ds → ds ≡ es)
  -- these are handed out, no more and no fewer
  pub handed_out :
      {ps : List (List ℕ)} {os : List Datagram} {rs : List Report} {t : Session} → FedInTurn u ps os rs t → HandsOut u ps os
  -- its own fields and judgements, what was missed since the one before it, and exact doubles
  pub contained :
      {ps : List (List ℕ)} {os : List Datagram} {rs : List Report} {t : Session} → FedInTurn u ps os rs t
      → (es : List (List ℕ)) → Among (is_datagram u) (stream_of u ps) es
      → (i : ℕ) → i < length es
      → Contained u (eqb i 0) (fields_of u.identifier (get_or es (i - 1) [])).counter (get_or es i []) (get_or os i no_datagram)
  pub exact :
      {ps : List (List ℕ)} {os : List Datagram} {rs : List Report} {t : Session} → FedInTurn u ps os rs t
      → (es : List (List ℕ)) → Among (is_datagram u) (stream_of u ps) es
      → (i : ℕ) → i < length es → (group axis : ℕ) → group < 3 → axis < 3
      → Exact u (get_or es i []) (get_or os i no_datagram) group axis
  -- the total of an axis there: by the rule for one axis over what it sees up to there, if it keeps one, else 0 and not begun
  pub totals :
      {ps : List (List ℕ)} {os : List Datagram} {rs : List Report} {t : Session} → FedInTurn u ps os rs t
      → (es : List (List ℕ)) → Among (is_datagram u) (stream_of u ps) es
      → (i : ℕ) → i < length es → (group axis : ℕ) → group < 3 → axis < 3
      → total_at (get_or os i no_datagram).totals group axis
      ≡ total_of (cond (keeps u group) (after no_axis (take (suc i) (sightings u group axis es))) no_axis)
  -- a total depends only on its own axis's readings, its group's status bytes and which datagrams were handed out
  pub independent :
      (group axis : ℕ) → group < 3 → axis < 3
      → (ds es : List (List ℕ)) → sightings u group axis ds ≡ sightings u group axis es → (i : ℕ)
      → (total_at (get_or (answers_for u ds) i no_datagram).totals group axis ≡ total_at (get_or (answers_for u es) i no_datagram).totals group axis)
      × (double_at (get_or (answers_for u ds) i no_datagram).doubles group axis ≡ double_at (get_or (answers_for u es) i no_datagram).doubles group axis)
  -- bytes fed are the stream's, and passed over and held are those of 01's scan; with the datagrams handed out they add up (OneLength.counted)
  pub bytes :
      {ps : List (List ℕ)} {os : List Datagram} {rs : List Report} {t : Session} → FedInTurn u ps os rs t
      → (t.fed ≡ length (stream_of u ps)) × (t.passed ≡ (scan (verdict_of u) (stream_of u ps)).passed)
      × (held_bytes t ≡ (scan (verdict_of u) (stream_of u ps)).held)

-- ---- demand 3

-- in the answer o an axis stands for the change from the true value t₀ to t, with so many fine units to one output step:
-- its total is t / fine rounded down minus t₀ / fine rounded down, times fine it differs from t - t₀ by less than fine, its double is the total over 2 ^ shift
pub record Stands (u : Setup) (group axis fine : ℕ) (t₀ t : ℤ) (o : Datagram) : Type 0 where
  pub begun : (total_at o.totals group axis).begun ≡ true
  pub exact : (total_at o.totals group axis).steps ≡ floor t fine -ℤ floor t₀ fine
  pub near : nat_abs ((total_at o.totals group axis).steps *ℤ pos fine -ℤ (t -ℤ t₀)) < fine
  pub double : TotalExact u group axis o

-- Among these datagrams the fit ones carry, in order, the true values ts over fine rounded down and folded, neighbours of which differ by less than (2 ^ 23 - 1) × fine
pub record Carry (fine : ℕ) (ss : List Sighting) (ts : List ℤ) : Type 0 where
  pub carried : fit_readings ss ≡ map (reading_of fine) ts
  pub close : Close fine ts

pub record Demand3 (u : Setup) : Type 0 where
  -- opening answers without refusal
  pub opened : ruling_number (opening u).answer ≡ none
  -- every list of pieces can be fed in turn, and in one way only
  pub fed : (ps : List (List ℕ)) → CanBeFed u ps
  pub once :
      {ps : List (List ℕ)} {os os' : List Datagram} {rs rs' : List Report} {t t' : Session}
      → FedInTurn u ps os rs t → FedInTurn u ps os' rs' t' → (os ≡ os') × (rs ≡ rs') × (t ≡ t')
  -- each piece is turned down by 11 or else by 12, with no byte taken, or taken whole, by its length and the earlier ones' alone
  pub reported :
      {ps : List (List ℕ)} {os : List Datagram} {rs : List Report} {t : Session} → FedInTurn u ps os rs t
      → (rs ≡ reports (limits_of u) 0 ps) × NoTen rs × (t.fed ≡ length (stream_of u ps))
  -- every list of at most a session's bytes is the stream of some list of pieces
  pub streams : (v : List ℕ) → length v ≤ (limits_of u).session → (ps : List (List ℕ)) × (stream_of u ps ≡ v)
  -- exactly the stream's datagrams are handed out, in order
  pub handed_out :
      {ps : List (List ℕ)} {os : List Datagram} {rs : List Report} {t : Session} → FedInTurn u ps os rs t → HandsOut u ps os
  -- at each of them that is fit for an axis of a group set to integrated, the answer stands for the change from the first true value to the one that it carries
  pub change :
      {ps : List (List ℕ)} {os : List Datagram} {rs : List Report} {t : Session} → FedInTurn u ps os rs t
      → (es : List (List ℕ)) → Among (is_datagram u) (stream_of u ps) es
      → (group axis : ℕ) → group < 3 → axis < 3 → get_or u.units group 0 ≡ 3
      → (fine : ℕ) → 0 < fine → (ts : List ℤ) → Carry fine (sightings u group axis es) ts
      → (i : ℕ) → i < length es → (sighting u group axis (get_or es i [])).fit ≡ true
      → (k : ℕ) × (k ≡ fit_before (sightings u group axis es) i) × (k < length ts)
      × ((sighting u group axis (get_or es i [])).reading ≡ reading_of fine (get_or ts k (pos 0)))
      × Stands u group axis fine (get_or ts 0 (pos 0)) (get_or ts k (pos 0)) (get_or os i no_datagram)
  -- and each of the true values is carried by one of them
  pub all_carried :
      (es : List (List ℕ)) (group axis fine : ℕ) (ts : List ℤ) → Carry fine (sightings u group axis es) ts → (k : ℕ) → k < length ts
      → (i : ℕ) × (i < length es) × ((sighting u group axis (get_or es i [])).fit ≡ true) × (fit_before (sightings u group axis es) i ≡ k)

-- ---- 02, 2.5: totals that may have slipped

-- what a gyro axis sees of a datagram, with the datagram's counter
abbrev pub counted_sighting : Setup → ℕ → List ℕ → Counted
counted_sighting u axis d = record { sighting = sighting u 0 axis d; counter = (fields_of u.identifier d).counter }

abbrev pub counted : Setup → ℕ → List (List ℕ) → List Counted
counted u axis ds = map (counted_sighting u axis) ds

-- each gyro axis by itself. True angles count fine units, `fine` of which make an output step; of the shift nothing is asked, and with 21 the bound on the
-- angles' change is 480 °/s
pub record DoubtfulTotals (u : Setup) : Type 0 where
  -- of a gyro set to integrated: the mark that comes back with the datagram at a place, fit or not, is true if and only if, at some fit place up to and
  -- including it behind the axis's first fit one, the d's of the datagrams since the fit place before add up to more than 16, or the rate is 0
  pub marked :
      {ps : List (List ℕ)} {os : List Datagram} {rs : List Report} {t : Session} → FedInTurn u ps os rs t
      → (es : List (List ℕ)) → Among (is_datagram u) (stream_of u ps) es
      → get_or u.units 0 0 ≡ 3 → (axis : ℕ) → axis < 3 → (i : ℕ) → i < length es
      → (mark_at (get_or os i no_datagram).doubtful axis ≡ true → MaySlip u.rate (take (suc i) (counted u axis es)))
      × (MaySlip u.rate (take (suc i) (counted u axis es)) → mark_at (get_or os i no_datagram).doubtful axis ≡ true)
  -- of any other there is no mark
  pub never :
      {ps : List (List ℕ)} {os : List Datagram} {rs : List Report} {t : Session} → FedInTurn u ps os rs t
      → (es : List (List ℕ)) → Among (is_datagram u) (stream_of u ps) es
      → (get_or u.units 0 0 ≡ 3 → ⊥) → (axis : ℕ) → axis < 3 → (i : ℕ) → i < length es → mark_at (get_or os i no_datagram).doubtful axis ≡ false
  -- the sum that the session keeps at the end: the d's of the datagrams behind the axis's last fit one, added up and stopping at 65,535
  pub sum :
      {ps : List (List ℕ)} {os : List Datagram} {rs : List Report} {t : Session} → FedInTurn u ps os rs t
      → (es : List (List ℕ)) → Among (is_datagram u) (stream_of u ps) es
      → get_or u.units 0 0 ≡ 3 → (axis : ℕ) → axis < 3
      → (before : List Counted) (last : Counted) (behind : List Counted) → counted u axis es ≡ before ++ (last ∷ behind)
      → last.sighting.fit ≡ true → AllUnfit behind
      → (doubt_at t.history.doubt axis).samples.0 ≡ min (samples_over last.counter behind) 65535
  -- at a fit place i where the total isn't marked, if of the datagrams up to there neighbours lie 1 to 255 samples apart, by which their counters differ
  -- modulo 256, 100 × the change of the true angle between them is at most 50,331,648 × fine for each of these samples, and each fit one carries its angle
  -- over fine rounded down and folded: the total stands for the true change since the axis's first fit datagram
  pub unmarked :
      {ps : List (List ℕ)} {os : List Datagram} {rs : List Report} {t : Session} → FedInTurn u ps os rs t
      → (es : List (List ℕ)) → Among (is_datagram u) (stream_of u ps) es
      → get_or u.units 0 0 ≡ 3 → (axis : ℕ) → axis < 3
      → (i : ℕ) → i < length es → (sighting u 0 axis (get_or es i [])).fit ≡ true → mark_at (get_or os i no_datagram).doubtful axis ≡ false
      → (fine : ℕ) → 0 < fine → (angles : List ℤ) → TrueAngles fine (take (suc i) (counted u axis es)) angles
      → (k : ℕ) × (k ≤ i) × FirstFit (counted u axis es) k
      × Stands u 0 axis fine (get_or angles k (pos 0)) (get_or angles i (pos 0)) (get_or os i no_datagram)
  -- the same with a true angle at each internal sample, 100 × the change in each of which is at most 50,331,648 × fine; at: the sample of each datagram
  pub unmarked_by_samples :
      {ps : List (List ℕ)} {os : List Datagram} {rs : List Report} {t : Session} → FedInTurn u ps os rs t
      → (es : List (List ℕ)) → Among (is_datagram u) (stream_of u ps) es
      → get_or u.units 0 0 ≡ 3 → (axis : ℕ) → axis < 3
      → (i : ℕ) → i < length es → (sighting u 0 axis (get_or es i [])).fit ≡ true → mark_at (get_or os i no_datagram).doubtful axis ≡ false
      → (fine : ℕ) → 0 < fine → (angle : ℕ → ℤ) (at : List ℕ) → SampledAngles fine (take (suc i) (counted u axis es)) angle at
      → (k : ℕ) × (k ≤ i) × FirstFit (counted u axis es) k
      × Stands u 0 axis fine (angle (get_or at k 0)) (angle (get_or at i 0)) (get_or os i no_datagram)
