-- Pieces given in turn to receive_lines give the lines of the datagrams that feeding them hands out. Assumes nothing.
use Prim.Native.Nat.{ℕ, ◌≤◌}
use mathlib.Core.Path.{◌≡◌, refl, sym, ap, ◌∙◌, subst}
use mathlib.Core.Bool.{true}
use mathlib.Core.List.{List, [], ◌∷◌, ◌++◌, map}
use native.Mathlib.Omega.{arith}
use lib.ListN.{length, drop, replicate, length-replicate}
use lib.Seq.{take_at}
use Rattle.setup.specs.Setup.{ruling_on}
use Rattle.setup.specs.declared.Setup.{Setup}
use Rattle.scan.specs.Calls.{Outcome, taken_whole, turned_down, Report, none, refuse}
use Rattle.scan.proofs.RunLaws.{run_append}
use Rattle.admission.specs.Admission.{is_sound, piece_ruling}
use Rattle.admission.proofs.PieceRulings.{admitted}
use Rattle.admission.proofs.TenLaws.{ten_sound}
use Rattle.session.specs.Session.{fresh_of, opening}
use Rattle.session.specs.declared.Session.{Session}
use Rattle.session.specs.declared.Opened.{Opened}
use Rattle.session.proofs.Opening.{opened}
use Rattle.feeding.specs.declared.Datagram.{Datagram}
use Rattle.feeding.specs.declared.Reply.{Reply}
use Rattle.feeding.specs.Feed.{refusal, feed_by, feed_of, call_by, call, Calls}
use Rattle.feeding.proofs.CallParts.{held_whole}
use Rattle.feeding.proofs.Demands.{demand2, demand3}
use Rattle.whole_piece.specs.declared.Batch.{Batch}
use Rattle.whole_piece.specs.Lines.{lines_after, answers_in, lines_in, behind, enough, buffer_by, batch_of, batch_buffer}
use Rattle.promises.specs.InTurn as turns
use Rattle.promises.specs.InTurn.{lines_given, outcome_in, LinesRun, next, LinesInTurn}
use Rattle.whole_piece.proofs.LongestLines.{lines_enough}
use Rattle.whole_piece.proofs.Batches.{Way, turned_down_lem, too_long, fitting, way, whole}
use Rattle.whole_piece.proofs.OneByOne.{behind_sound, run, one_by_one}
use Rattle.whole_piece.proofs.WholePieces.{lines_then}
use Rattle.std.specs.Prelude as prelude
use Rattle.std.specs.Prelude.{Ok}
use Rattle.refusals.specs.Refusals.{Ruling}
use Rattle.refusals.specs.declared.Refusal.{Refusal}

-- ---- a session from which pieces can be given on

record Sound (s : Session) : Type 0 where
  sound : is_sound s ≡ true
  long : length s.held ≡ 64

module _ (s : Session) (S : Sound s) (p b : List ℕ) where
  -- so is the one that comes back with a piece
  sound_behind : {x : Batch} → Way s p b x → Sound x.session
  sound_behind (turned_down_lem e) = S
  sound_behind (too_long e l) = S
  sound_behind (fitting e l) =
      let M = admitted s (length p) e in
      let k = behind_sound s p S.sound M.piece M.session in
      record { sound = k; long = held_whole s.setup (behind s p) k }

-- ---- what feeding the same pieces gives

record AsFed (s : Session) (ps : List (List ℕ)) (text : List ℕ) (answers : List (prelude.Result ℕ Refusal)) (t : Session) : Type 0 where
  os : List Datagram
  rs : List Report
  calls : Calls s ps os rs t
  lines : text ≡ lines_after s.setup s.history.datagrams.0 os
  outcomes : map outcome_in answers ≡ map (λ (r : Report). r.outcome) rs

module _ (s : Session) (S : Sound s) (p : List ℕ) where
  -- the calls on a piece that is taken
  one_piece : piece_ruling s (length p) ≡ Ok tt → Calls s (p ∷ []) (answers_in s p) (record { outcome = taken_whole; taken = length p } ∷ []) (whole s p).session
  one_piece e =
      let M = admitted s (length p) e in
      let r = run s p S.sound M.piece M.session S.long in
      let f = one_by_one s p S.sound M.piece M.session S.long r.3 in
      subst (λ (os : List Datagram). Calls s (p ∷ []) os (record { outcome = taken_whole; taken = length p } ∷ []) (whole s p).session) f.0
      (subst (λ (x : Session). Calls s (p ∷ []) r.0 (record { outcome = taken_whole; taken = length p } ∷ []) x) f.1
      (subst (λ (rs : List Report). Calls s (p ∷ []) r.0 rs r.2) f.2 r.3))

  module _ (b : List ℕ) (room : enough ≤ length b) {ps : List (List ℕ)} {text : List ℕ} {answers : List (prelude.Result ℕ Refusal)} {t : Session} where
    -- a piece, and then those behind it
    joins :
        {x : Batch} → Way s p b x → AsFed x.session ps text answers t
        → AsFed s (p ∷ ps) (lines_given x.answer (buffer_by x.answer (lines_in s p) b) ++ text) (x.answer ∷ answers) t
    unfolding feed_of
    joins (turned_down_lem {e = n} e) A =
        let q : feed_of s p ≡ refusal s n = ap (λ (r : Ruling). feed_by r s p) e in
        record {
          os = A.os;
          rs = record { outcome = turned_down n; taken = (call s p).taken } ∷ A.rs;
          calls =
              refuse n (ap (λ (r : Reply). (call_by r).answer) q)
              (subst (λ (r : Reply). Calls r.session ps A.os A.rs t) (sym q) A.calls);
          lines = A.lines;
          outcomes = ap (λ (l : List Outcome). turned_down n ∷ l) A.outcomes;
        }
    joins (too_long e l) A = absurd (omega (arith, lines_enough s p e))
    joins (fitting e l) A =
        let first = lines_in s p in
        record {
          os = answers_in s p ++ A.os;
          rs = record { outcome = taken_whole; taken = length p } ∷ A.rs;
          calls = run_append (one_piece e) A.calls;
          lines =
              ap (λ (l : List ℕ). l ++ text) (take_at first (drop (length first) b) (length first) refl)
              ∙ ap (λ (l : List ℕ). first ++ l) A.lines
              ∙ sym (lines_then s p A.os);
          outcomes = ap (λ (l : List Outcome). taken_whole ∷ l) A.outcomes;
        }

as_fed :
    {s t : Session} {ps : List (List ℕ)} {text : List ℕ} {answers : List (prelude.Result ℕ Refusal)} → LinesRun s ps text answers t → Sound s → AsFed s ps text answers t
unfolding lines_after batch_buffer
as_fed turns.LinesRun.none S = record { os = []; rs = []; calls = none; lines = refl; outcomes = refl }
as_fed (next {s = s} {p = p} b room r) S = joins s S p b room (way s p b) (as_fed r (sound_behind s S p b (way s p b)))

-- ---- any pieces can be given

buffer : List ℕ
buffer = replicate enough 0

buffer_enough : enough ≤ length buffer
unfolding buffer
buffer_enough = omega (arith, length-replicate {A = ℕ} enough 0)

lines_run : (s : Session) (ps : List (List ℕ)) → (text : List ℕ) × (answers : List (prelude.Result ℕ Refusal)) × (t : Session) × LinesRun s ps text answers t
lines_run s [] = ([], [], s, turns.LinesRun.none)
lines_run s (p ∷ ps) =
    let r = lines_run (batch_of s p (length buffer)).session ps in (
      lines_given (batch_of s p (length buffer)).answer (batch_buffer s p buffer) ++ r.0,
      (batch_of s p (length buffer)).answer ∷ r.1,
      r.2,
      next buffer buffer_enough r.3,
    )

-- ---- the claim

module _ (u : Setup) (ok : ruling_on u ≡ Ok tt) where
  fresh : (opening u).session ≡ fresh_of u
  fresh = ap (λ (o : Opened). o.session) (opened u ok)

  fresh_sound : Sound (opening u).session
  unfolding fresh_of
  fresh_sound = record { sound = ten_sound (opening u).session (demand2 u ok).opened; long = ap (λ (s : Session). length s.held) fresh }

  pub lines_in_turn : LinesInTurn u
  unfolding fresh_of
  lines_in_turn =
      record {
        given = lines_run (opening u).session;
        same =
            λ c r.
            let A = as_fed r fresh_sound in
            let one = (demand3 u ok).once c A.calls in (
              A.lines ∙ ap (λ (s : Session). lines_after s.setup s.history.datagrams.0 A.os) fresh ∙ ap (lines_after u 0) (sym one.0),
              sym one.2,
              A.outcomes ∙ ap (map (λ (x : Report). x.outcome)) (sym one.1),
            );
      }
