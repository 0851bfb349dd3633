-- What comes of a piece by its case: feeding refuses it, its lines don't fit the lent buffer, or they do. Assumes nothing.
use Prim.Native.Nat.{ℕ, ◌≤◌, ◌<◌}
use mathlib.Core.Path.{◌≡◌, refl, sym, ap, ◌∙◌, subst}
use mathlib.Core.List.{List, ◌++◌}
use mathlib.Core.Logic.{◌⊎◌, inl, inr}
use mathlib.Core.Option.{some}
use native.Mathlib.Decide.{dec_le}
use native.Mathlib.Omega.{arith}
use borrow.Author.Tests.{le-ltb, lt-ltb}
use lib.ListN.{length, drop}
use Rattle.setup.specs.Setup.{first_of}
use Rattle.setup.proofs.Rules.{first_accepted, first_refused}
use Rattle.shown_line.specs.ShownLine.{room_rules}
use Rattle.admission.specs.Admission.{piece_rules, piece_ruling}
use Rattle.admission.proofs.PieceRulings.{piece_numbers}
use Rattle.session.specs.declared.Session.{Session}
use Rattle.feeding.specs.Feed.{session_of}
use Rattle.whole_piece.specs.declared.Batch.{Batch}
use Rattle.whole_piece.specs.Lines.{lines_in, behind, refusing, buffer_by, batch_with, batch_of, batch_buffer, received_number}
use Rattle.std.specs.Prelude.{Ok, Err}
use Rattle.refusals.specs.Refusals.{number_of, Ruling}
use Rattle.refusals.specs.declared.Refusal.{Refusal}
use Rattle.refusals.specs.declared.Refusal.TheVariants.{LineRoom}

-- all lines of a piece, and the session behind it
abbrev pub whole : Session → List ℕ → Batch
whole s p = record { answer = Ok (length (lines_in s p)); session = session_of s.setup (behind s p) }

module _ (s : Session) (p b : List ℕ) where
  -- ---- what refuses the piece

  pub refused : {e : Refusal} → piece_ruling s (length p) ≡ Err e → batch_of s p (length b) ≡ refusing s e
  unfolding batch_of piece_ruling
  refused q = ap (λ (r : Ruling). batch_with r s p) (first_refused (piece_rules s (length p)) (room_rules (lines_in s p) (length b)) q)

  left_to_room : piece_ruling s (length p) ≡ Ok tt → batch_of s p (length b) ≡ batch_with (first_of (room_rules (lines_in s p) (length b))) s p
  unfolding batch_of piece_ruling
  left_to_room e = ap (λ (r : Ruling). batch_with r s p) (first_accepted (piece_rules s (length p)) (room_rules (lines_in s p) (length b)) e)

  pub fourteen : piece_ruling s (length p) ≡ Ok tt → length b < length (lines_in s p) → batch_of s p (length b) ≡ refusing s LineRoom
  fourteen e l = left_to_room e ∙ rw (lt-ltb (length b) (length (lines_in s p)) l)

  -- and writes nothing
  pub refused_keeps : (n : Refusal) {r : Batch} → r ≡ refusing s n → batch_of s p (length b) ≡ refusing s n → (r ≡ batch_of s p (length b)) × (b ≡ batch_buffer s p b)
  unfolding batch_buffer
  refused_keeps n q e = (q ∙ sym e, ap (λ (x : Batch). buffer_by x.answer (lines_in s p) b) (sym e))

  -- ---- where nothing does

  pub fitting_lines : piece_ruling s (length p) ≡ Ok tt → length (lines_in s p) ≤ length b → batch_of s p (length b) ≡ whole s p
  fitting_lines e l = left_to_room e ∙ rw (le-ltb (length b) (length (lines_in s p)) l)

  -- and the buffer
  pub fitting_buffer : piece_ruling s (length p) ≡ Ok tt → length (lines_in s p) ≤ length b → batch_buffer s p b ≡ lines_in s p ++ drop (length (lines_in s p)) b
  unfolding batch_buffer
  fitting_buffer e l = ap (λ (x : Batch). buffer_by x.answer (lines_in s p) b) (fitting_lines e l)

-- ---- by 01's numbers

module _ (s : Session) (p b : List ℕ) where
  -- what comes of a piece: feeding refuses it, its lines don't fit, or they do
  pub data Way : Batch → Type 0 where
    turned_down_lem : {e : Refusal} → piece_ruling s (length p) ≡ Err e → Way (refusing s e)
    too_long : piece_ruling s (length p) ≡ Ok tt → length b < length (lines_in s p) → Way (refusing s LineRoom)
    fitting : piece_ruling s (length p) ≡ Ok tt → length (lines_in s p) ≤ length b → Way (whole s p)

  pub way : Way (batch_of s p (length b))
  way = by (piece_ruling s (length p)) refl
    where
      room : piece_ruling s (length p) ≡ Ok tt → Dec (length (lines_in s p) ≤ length b) → Way (batch_of s p (length b))
      room e (yes l) = subst Way (sym (fitting_lines s p b e l)) (fitting e l)
      room e (no l) = let m : length b < length (lines_in s p) = omega arith in subst Way (sym (fourteen s p b e m)) (too_long e m)

      by : (r : Ruling) → piece_ruling s (length p) ≡ r → Way (batch_of s p (length b))
      by (Ok tt) e = room e (dec_le (length (lines_in s p)) (length b))
      by (Err f) e = subst Way (sym (refused s p b e)) (turned_down_lem e)

  -- the number is one of 10 to 12, or 14
  pub batch_numbers : {n : ℕ} → received_number (batch_of s p (length b)).answer ≡ some n → ((10 ≤ n) × (n ≤ 12)) ⊎ (n ≡ 14)
  batch_numbers {n} = by way
    where
      by : {x : Batch} → Way x → received_number x.answer ≡ some n → ((10 ≤ n) × (n ≤ 12)) ⊎ (n ≡ 14)
      by (turned_down_lem {e = f} e) q =
          let z : number_of f ≡ n = cc in
          let r = piece_numbers s (length p) e in
          inl (omega (arith, r.0), omega (arith, r.1))
      by (too_long e l) q = inr (let z : 14 ≡ n = cc in sym z)
      by (fitting e l) q = absurd (let z : ◌≡◌ {A = ℕ} 0 1 = cc in omega arith)
