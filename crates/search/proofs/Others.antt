-- Bytes that are not the identifier: the scan passes over all that stand before the first identifier.
use Prim.Native.Nat.{ℕ, zero, suc, ◌+◌, ◌*◌, ◌≤◌}
use mathlib.Core.Path.{◌≡◌, refl, sym, ap, ◌∙◌}
use mathlib.Core.Bool.{Bool, true, false}
use mathlib.Core.List.{List, [], ◌∷◌}
use native.Mathlib.Omega.{arith}
use borrow.Author.Tests.{ltb-false}
use lib.Dec.{eqb, ltb}
use lib.ListN.{length, take, drop, length-drop}
use lib.Seq.{drop-drop}
use Rattle.std.specs.Prelude.{not, cond}
use Rattle.std.specs.List.{position_or_len}
use Rattle.std.specs.Simd.{first_chunks}
use Rattle.byte_slices.specs.ByteSlices.{index_after, index_of}
use Rattle.byte_slices.proofs.ByteSlices.{index_take, index_behind}
use Rattle.scan.specs.Scan.{First, first, later}
use Rattle.scan.specs.Front.{front}
use Rattle.scan.specs.OneLength.{one_candidate}
use Rattle.scan.proofs.ScanLaws.{later_zero, later_later}
use Rattle.scan.proofs.FrontLaws.{front_unknown}

-- the groups of sixteen before the first in which b stands are passed over
pub far_groups :
    (b k : ℕ) (u : List ℕ) → k * 16 ≤ length u → let far = position_or_len (λ g. ltb (index_of b g) 16) (first_chunks 16 k u) in
    (far * 16 ≤ length u) × (far * 16 + index_of b (drop (far * 16) u) ≡ index_of b u)
far_groups b zero u h = (h, omega arith)
far_groups b (suc k) u h = by (ltb (index_of b (take 16 u)) 16) refl (far_groups b k (drop 16 u) (omega (arith, length-drop 16 u)))
  where
    rest : ℕ
    rest = position_or_len (λ g. ltb (index_of b g) 16) (first_chunks 16 k (drop 16 u))

    by :
        (t : Bool) → ltb (index_of b (take 16 u)) 16 ≡ t
        → (rest * 16 ≤ length (drop 16 u)) × (rest * 16 + index_of b (drop (rest * 16) (drop 16 u)) ≡ index_of b (drop 16 u))
        → let far = cond (not t) (1 + rest) 0 in (far * 16 ≤ length u) × (far * 16 + index_of b (drop (far * 16) u) ≡ index_of b u)
    by true e on = (omega arith, omega arith)
    by false e on =
        let none : 16 ≤ index_of b u = omega (arith, ltb-false _ _ e, index_take b 16 u) in
        let all : 16 + rest * 16 ≡ (1 + rest) * 16 = omega arith in
        let place = drop-drop (rest * 16) 16 u ∙ ap (λ (n : ℕ). drop n u) all in
        (omega (arith, on.0, length-drop 16 u), omega (arith, on.1, index_behind b u 16 none, ap (index_of b) place))

module _ (identifier size : ℕ) (acceptable : List ℕ → Bool) where
  abbrev from : List ℕ → First
  from u = first (front (one_candidate identifier size) acceptable) u

  -- what the scan finds from the first identifier on, after the bytes before it, is what it finds in the whole
  pub passes_others : (u : List ℕ) → from u ≡ later (index_of identifier u) (from (drop (index_of identifier u) u))
  unfolding index_of index_after first
  passes_others [] = refl
  passes_others (x ∷ u) = by (eqb x identifier) refl (passes_others u)
    where
      by :
          (t : Bool) → eqb x identifier ≡ t → from u ≡ later (index_of identifier u) (from (drop (index_of identifier u) u))
          → from (x ∷ u) ≡ later (index_after t (index_of identifier u)) (from (drop (index_after t (index_of identifier u)) (x ∷ u)))
      by true e on = sym (later_zero (from (x ∷ u)))
      by false e on =
          let next = from (drop (index_of identifier u) u) in
          let one : 1 + index_of identifier u ≡ suc (index_of identifier u) = omega arith in
          rw (front_unknown (one_candidate identifier size) acceptable x u (rw e))
          (ap (later 1) on ∙ later_later 1 (index_of identifier u) next ∙ ap (λ (m : ℕ). later m next) one)

  -- the same from a place on
  pub passes_onward :
      (p : List ℕ) (i : ℕ) {next : ℕ} → next ≡ i + index_of identifier (drop i p)
      → from (drop i p) ≡ later (index_of identifier (drop i p)) (from (drop next p))
  passes_onward p i e =
      passes_others (drop i p)
      ∙ ap (λ (u : List ℕ). later (index_of identifier (drop i p)) (from u)) (drop-drop (index_of identifier (drop i p)) i p)
      ∙ ap (λ (k : ℕ). later (index_of identifier (drop i p)) (from (drop k p))) (sym e)
