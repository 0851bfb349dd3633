-- The size of a whole number, `nat_abs z`: of a sum, a negation and a difference. Assumes nothing.
use mathlib.Core.Path.{◌≡◌, ap}
use Prim.Native.Nat.{◌+◌, ◌≤◌}
use native.Mathlib.Omega.{arith}
use lib.IntN.{ℤ, pos, nat_abs, ◌+ℤ◌, ◌-ℤ◌}
use Rattle.integers.proofs.Parts.{parts_apart, parts_ext, nat_abs_parts, add_parts, sub_chain}

pub abs_add : (x y : ℤ) → nat_abs (x +ℤ y) ≤ nat_abs x + nat_abs y
abs_add x y = omega (arith, nat_abs_parts x, nat_abs_parts y, nat_abs_parts (x +ℤ y), add_parts x y, parts_apart (x +ℤ y))

-- a change is at most as large as two changes that lead to it
pub abs_through : (x y z : ℤ) → nat_abs (z -ℤ x) ≤ nat_abs (y -ℤ x) + nat_abs (z -ℤ y)
abs_through x y z = omega (arith, ap nat_abs (sub_chain x y z), abs_add (y -ℤ x) (z -ℤ y))

-- only 0 has the size 0
pub abs_zero : (x : ℤ) → nat_abs x ≡ 0 → x ≡ pos 0
abs_zero x h = parts_ext x (pos 0) (omega (arith, nat_abs_parts x))
