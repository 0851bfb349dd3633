-- Demand 1: what comes back of lent memory, and which numbers can come out. Assumes nothing.
use mathlib.Core.List.{List, [], ◌∷◌}
use mathlib.Core.Option.{none, some}
use mathlib.Core.Path.{◌≡◌, refl, sym, ap, ◌∙◌, subst}
use native.Mathlib.Omega.{arith}
use Prim.Native.Nat.{ℕ}
use lib.IntN.{ℤ}
use lib.ListN.{length}
use Rattle.setup.specs.Setup.{ruling_number, zero_setup}
use Rattle.setup.specs.declared.Setup.{Setup}
use Rattle.setup.proofs.Rules.{none_accepted, some_refused, number_accepted, number_refused, accepted_number, ruling_number_lem}
use Rattle.setup.proofs.Refusals.{judge_numbers}
use Rattle.setup_line.specs.SetupLine as line
use Rattle.setup_line.proofs.LineAnswers.{line_number, line_numbers, refused_zeros, accepted_line}
use Rattle.gaps.specs.declared.Gap.{Gap}
use Rattle.motion.specs.Totals.{Totals}
use Rattle.motion.proofs.NineAxes.{none_at}
use Rattle.doubt.proofs.DoubtLaws.{no_doubt_at}
use Rattle.shown_line.specs.declared.Shown.{Shown}
use Rattle.shown_line.specs.ShownLine.{written_number}
use Rattle.shown_line.proofs.ShownLaws.{shown_number, shown_numbers, shown_keeps, shown_whole, shown_enough, shown_short}
use Rattle.scan.specs.Calls.{Report}
use Rattle.session.specs.Session.{fresh_of, opening}
use Rattle.session.specs.declared.Session.{Session}
use Rattle.session.specs.declared.Opened.{Opened}
use Rattle.session.proofs.Opening.{opened, refused_opening, opening_ruling, opening_numbers}
use Rattle.admission.proofs.PieceRulings as piece
use Rattle.feeding.specs.declared.Datagram.{Datagram}
use Rattle.feeding.specs.Feed.{Calls}
use Rattle.feeding.proofs.CallParts.{fed_refused}
use Rattle.feeding.proofs.EachCall.{fed_number}
use Rattle.text.proofs.Answers.{setup_refused}
use Rattle.text.proofs.LineLaws as text
use Rattle.whole_piece.specs.Lines.{received_number, lines_after, lines_in}
use Rattle.whole_piece.specs.declared.Batch.{Batch}
use Rattle.whole_piece.proofs.Batches.{fourteen, fitting_lines, Way, turned_down_lem, too_long, fitting, way, batch_numbers}
use Rattle.whole_piece.proofs.LongestLines.{lines_enough}
use Rattle.whole_piece.proofs.OneByOne.{run, one_by_one}
use Rattle.whole_piece.proofs.BatchAnswers.{batch_number, batch_refused, batch_written}
use Rattle.made_datagram.specs.Making.{made_number, made_bytes}
use Rattle.made_datagram.specs.declared.Values.{Values}
use Rattle.made_datagram.proofs.MadeLaws as making
use Rattle.printed_value.proofs.Answers as printed
use Rattle.printed_value.proofs.ValueLaws.{value_longest}
use Rattle.promises.specs.Demand1.{Between, LineRead, SetupJudged, IsFresh, SessionOpened, PieceFed, LineWritten, ShownWritten, PieceReceived, DatagramMade, ValuePrinted, Demand1}
use Rattle.std.specs.Prelude.{Err}
use Rattle.refusals.specs.Refusals.{number_of, Ruling}
use Rattle.refusals.specs.declared.Refusal.{Refusal}

-- what holds of the number of each refusal holds of the number that comes out
by_number : {r : Ruling} {n : ℕ} (P : ℕ → Type 0) → ((e : Refusal) → r ≡ Err e → P (number_of e)) → ruling_number r ≡ some n → P n
by_number {r} P holds q = let s = some_refused r q in subst P s.2 (holds s.0 s.1)

line_read : (l : List ℕ) → LineRead l
line_read l =
    record {
      number = line_number l;
      numbers = λ q. by_number (Between 1 9) (λ e r. line_numbers l r) q;
      refused = λ q. refused_zeros l (some_refused (line.line_read l).answer q).1;
      accepted =
          λ e.
          let a = accepted_line l (none_accepted (line.line_read l).answer e) in
          (a.0, accepted_number (line.line_read l).setup a.1);
    }

setup_judged : (u : Setup) → SetupJudged u
setup_judged u = record { number = ruling_number_lem u; numbers = λ q. let s = number_refused u q in subst (Between 4 9) s.2 (judge_numbers u s.1) }

is_fresh : (u : Setup) → IsFresh u (fresh_of u)
unfolding fresh_of
is_fresh u =
    record {
      setup = refl;
      held = refl;
      counts = (refl, refl, refl);
      datagrams = (refl, refl);
      axes = none_at;
      doubt = no_doubt_at;
    }

session_opened : (u : Setup) → SessionOpened u
session_opened u =
    record {
      number = ap ruling_number (opening_ruling u) ∙ ruling_number_lem u;
      numbers = λ q. by_number (Between 4 9) (λ e r. opening_numbers u r) q;
      refused = λ e. subst (IsFresh zero_setup) (sym (ap (λ (o : Opened). o.session) (refused_opening u (number_refused u e).1))) (is_fresh zero_setup);
      accepted = λ e. subst (IsFresh u) (sym (ap (λ (o : Opened). o.session) (opened u (number_accepted u e)))) (is_fresh u);
    }

piece_fed : (s : Session) (p : List ℕ) → PieceFed s p
piece_fed s p =
    record {
      number = fed_number s p;
      numbers = λ q. let r = piece.number_refused s (length p) q in subst (Between 10 12) r.2 (piece.piece_numbers s (length p) r.1);
      refused = λ q. let r = piece.number_refused s (length p) q in (r.0, r.2, fed_refused s p r.1);
    }

-- a piece of which the lines were written was fed to its end
module _ (s : Session) (p b : List ℕ) (long : length s.held ≡ 64) where
  same_as_fed :
      {x : Batch} → Way s p b x → received_number x.answer ≡ none
      → {os : List Datagram} {rs : List Report} {t : Session} → Calls s (p ∷ []) os rs t
      → (lines_in s p ≡ lines_after s.setup s.history.datagrams.0 os) × (x.session ≡ t)
  unfolding lines_in
  same_as_fed (turned_down_lem e) q c = absurd (let z : ◌≡◌ {A = ℕ} 0 1 = cc in omega arith)
  same_as_fed (too_long e l) q c = absurd (let z : ◌≡◌ {A = ℕ} 0 1 = cc in omega arith)
  same_as_fed (fitting e l) q c =
      let a = piece.admitted s (length p) e in
      let o = one_by_one s p a.sound a.piece a.session long c in
      (ap (lines_after s.setup s.history.datagrams.0) (sym o.0), sym o.1)

  run_of :
      {x : Batch} → Way s p b x → received_number x.answer ≡ none
      → (os : List Datagram) × (rs : List Report) × (t : Session) × Calls s (p ∷ []) os rs t
  run_of (turned_down_lem e) q = absurd (let z : ◌≡◌ {A = ℕ} 0 1 = cc in omega arith)
  run_of (too_long e l) q = absurd (let z : ◌≡◌ {A = ℕ} 0 1 = cc in omega arith)
  run_of (fitting e l) q = let a = piece.admitted s (length p) e in run s p a.sound a.piece a.session long

piece_received : (s : Session) (p b : List ℕ) → PieceReceived s p b
piece_received s p b =
    record {
      front =
          record {
            ruled = batch_number s p b;
            refused = λ e. (batch_refused s p b (sym (batch_number s p b) ∙ e)).2;
            written = λ e. batch_written s p b (sym (batch_number s p b) ∙ e);
          };
      numbers = λ e. batch_numbers s p b e;
      refused = λ e. let r = batch_refused s p b (sym (batch_number s p b) ∙ e) in (r.0, r.1);
      fits = λ e l. ap (λ (x : Batch). received_number x.answer) (fitting_lines s p b (piece.number_admits s (length p) e) l);
      too_long = λ e l. ap (λ (x : Batch). received_number x.answer) (fourteen s p b (piece.number_admits s (length p) e) l);
      room = λ e. lines_enough s p (piece.number_admits s (length p) e);
      same = λ long e c. same_as_fed s p b long (way s p b) e c;
      runs = λ long e. run_of s p b long (way s p b) e;
    }

module _ (b : List ℕ) (u : Setup) (ordinal counter latency : ℕ) (gap : Gap) (readings : List (List ℤ)) (statuses : List ℕ) (totals : Totals) where
  line_written_lem : LineWritten b u ordinal counter latency gap readings statuses totals
  line_written_lem =
      record {
        front =
            record {
              ruled = text.answer_number_lem b u ordinal counter latency gap readings statuses totals;
              refused = λ e. text.refused_keeps b u ordinal counter latency gap readings statuses totals e;
              written = λ e. text.written_whole b u ordinal counter latency gap readings statuses totals e;
            };
        numbers = λ e. text.answer_numbers b u ordinal counter latency gap readings statuses totals e;
        setup_first =
            λ q.
            let r = number_refused u q in
            sym (ap written_number (setup_refused b u ordinal counter latency gap readings statuses totals r.1).0) ∙ ap some r.2;
        fits = λ e h l. text.enough_room b u ordinal counter latency gap readings statuses totals (number_accepted u e) h l;
        too_long = λ e h l. text.too_short b u ordinal counter latency gap readings statuses totals (number_accepted u e) h l;
      }

module _ (b : List ℕ) (shown : Shown) (ordinal counter latency : ℕ) (gap : Gap) (readings : List (List ℤ)) (statuses : List ℕ) (totals : Totals) where
  shown_written : ShownWritten b shown ordinal counter latency gap readings statuses totals
  shown_written =
      record {
        front =
            record {
              ruled = shown_number b shown ordinal counter latency gap readings statuses totals;
              refused = λ e. shown_keeps b shown ordinal counter latency gap readings statuses totals e;
              written = λ e. shown_whole b shown ordinal counter latency gap readings statuses totals e;
            };
        numbers = λ e. shown_numbers b shown ordinal counter latency gap readings statuses totals e;
        fits = λ h l. ap written_number (shown_enough b shown ordinal counter latency gap readings statuses totals h l);
        too_long = λ h l. ap written_number (shown_short b shown ordinal counter latency gap readings statuses totals h l);
      }

datagram_made : (b : List ℕ) (u : Setup) (readings : List (List ℤ)) (v : Values) → DatagramMade b u readings v
datagram_made b u readings v =
    record {
      front =
          record {
            ruled = making.made_number_lem b u readings v;
            refused = λ e. making.refused_keeps b u readings v e;
            written = λ e. making.made_whole b u readings v e;
          };
      numbers = λ e. making.made_numbers b u readings v e;
      setup_first = λ q. let r = number_refused u q in ap made_number (making.setup_first b u readings v r.1) ∙ ap some r.2;
      outside = λ e h. ap made_number (making.made_outside b u readings v (number_accepted u e) h);
      too_short = λ e h l. ap made_number (making.made_short b u readings v (number_accepted u e) h l);
      fits = λ e h l. let a = making.made_enough b u readings v (number_accepted u e) h l in (ap made_number a, ap made_bytes a);
    }

value_printed : (b : List ℕ) (n : ℤ) (shift places : ℕ) → ValuePrinted b n shift places
value_printed b n shift places =
    record {
      front =
          record {
            ruled = printed.printed_number b n shift places;
            refused = λ e. printed.refused_keeps b n shift places e;
            written = λ e. printed.printed_whole b n shift places e;
          };
      numbers = λ e. printed.printed_numbers b n shift places e;
      out_of_range = printed.seventeen b n shift places;
      beyond = printed.eighteen b n shift places;
      too_short = printed.nineteen b n shift places;
      fits = printed.enough b n shift places;
      room = value_longest n shift places;
    }

pub demand1 : Demand1
demand1 =
    record {
      line_read = line_read;
      setup_judged = setup_judged;
      session_opened = session_opened;
      piece_fed = piece_fed;
      line_written_lem = line_written_lem;
      shown_written = shown_written;
      piece_received = piece_received;
      datagram_made = datagram_made;
      value_printed = value_printed;
    }
