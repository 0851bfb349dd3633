-- What the tests of specs/Ranges tell: the fact from a test that is true or false, and the test's value from the fact. Assumes nothing.
use mathlib.Core.Path.{◌≡◌}
use mathlib.Core.Bool.{true}
use Prim.Native.Nat.{ℕ, ◌≤◌}
use native.Mathlib.Omega.{arith}
use lib.IntN.{ℤ, pos, negsuc, nat_abs}
use lib.Signed.{le_z}
use borrow.Author.Tests.{leb-true, le-leb, eqb-true}
use Rattle.integers.specs.Ranges.{is_zero, within, in_reading}
pub use Rattle.integers.proofs.Booleans.{and_split, or_split}
use Rattle.integers.proofs.Parts.{parts_apart, le_z_true, le_le_z}
use Rattle.integers.proofs.Sizes.{abs_zero}
use Rattle.integers.proofs.Folding.{InRange}

-- ---- zero

pub is_zero_true : (z : ℤ) → is_zero z ≡ true → z ≡ pos 0
is_zero_true z e = abs_zero z (eqb-true (nat_abs z) 0 e)

-- ---- at most a limit in size

module _ (limit : ℕ) (z : ℤ) where
  pub within_true : within limit z ≡ true → nat_abs z ≤ limit
  within_true e = leb-true (nat_abs z) limit e

  pub le_within : nat_abs z ≤ limit → within limit z ≡ true
  le_within h = le-leb (nat_abs z) limit h

-- ---- the 24 bits of a reading

pub in_reading_true : (z : ℤ) → in_reading z ≡ true → InRange z
in_reading_true z e =
    let p = and_split (le_z (negsuc 8388607) z) (le_z z (pos 8388607)) e in
    let q = parts_apart z in
    let l = le_z_true (negsuc 8388607) z p.0 in
    let u = le_z_true z (pos 8388607) p.1 in
    record { above = omega arith; below = omega arith }

pub range_in_reading : (z : ℤ) → InRange z → in_reading z ≡ true
range_in_reading z h = rw (le_le_z (negsuc 8388607) z (omega (arith, parts_apart z)), le_le_z z (pos 8388607) (omega (arith, parts_apart z)))
