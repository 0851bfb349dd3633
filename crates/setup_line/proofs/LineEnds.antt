-- Where a line ends is the place of the first 0x0A, within the bytes.
use Prim.Native.Nat.{ℕ, suc, ◌≤◌}
use mathlib.Core.Bool.{Bool, true, false, cond}
use mathlib.Core.Path.{◌≡◌, refl, ap}
use mathlib.Core.List.{List, [], ◌∷◌}
use native.Mathlib.Omega.{arith}
use lib.Dec.{eqb, ltb}
use lib.ListN.{length}
use borrow.Author.Tests.{ltb-false}
use Rattle.std.specs.List.{position, position_or_len}
use Rattle.std.specs.Option.{unwrap_or}
use Rattle.std.specs.Prelude.{Some, None}
use Rattle.std.proofs.lemmas.List.Recursion.{is_position_or_len}
use Rattle.setup_line.specs.SetupLine.{line_end}

end_place : (s : List ℕ) → line_end s ≡ position_or_len (λ b. eqb b 0x0A) s
unfolding line_end
end_place s = is_position_or_len line_end (λ b. eqb b 0x0A) refl (λ b t. ap (λ n. cond (eqb b 0x0A) 0 n) (omega arith)) s

-- within the bytes
end_within : (s : List ℕ) → line_end s ≤ length s
unfolding line_end
end_within [] = omega arith
end_within (b ∷ s) = by (eqb b 0x0A) (end_within s)
  where
    by : (t : Bool) → line_end s ≤ length s → cond t 0 (suc (line_end s)) ≤ suc (length s)
    by true h = omega arith
    by false h = omega arith

-- its place, or the end where there is none
place_or_end : (n m : ℕ) (t : Bool) → ltb n m ≡ t → n ≤ m → unwrap_or (cond t (Some n) None) m ≡ n
place_or_end n m true e h = refl
place_or_end n m false e h = omega (arith, ltb-false n m e)

pub end_found : (s : List ℕ) → unwrap_or (position (λ b. eqb b 0x0A) s) (length s) ≡ line_end s
end_found s = rw (← end_place s) (place_or_end (line_end s) (length s) (ltb (line_end s) (length s)) refl (end_within s))

-- so what a call gives
pub end_by : (s : List ℕ) {r : ℕ} → r ≡ line_end s → (r ≡ line_end s) × (r ≤ length s)
end_by s e = (e, omega (arith, end_within s))
