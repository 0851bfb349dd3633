-- Signed machine numbers. The machine keeps a signed number z as its bits, `of_z w z`, and each operation reads it back, `to_z w (of_z w z)`,
-- so the needs of signed code are about such terms. That z is a number of the width is `SFits w z`:
--     of a parameter x        c .fits .x
--     of a callee's result    record { sfits = c.f.ok }
--     of a struct's field     record { sfits = omega arith }
--     of a sum and the like   sfits-of-parts, sfits-of-abs
-- Assumes nothing.
use mathlib.Core.Path.{◌≡◌, sym, ap, ◌∙◌, subst}
use mathlib.Core.Bool.{true, false}
use Prim.Native.Nat.{◌+◌, ◌^◌, ◌≤◌, ◌<◌}
use native.Mathlib.Nat.{lt_of_lt_of_le}
use native.Mathlib.Omega.{arith}
use lib.Dec.{T, leb, leb→le}
use lib.IntN.{ℤ, nat_abs}
use lib.Pow.{pow_mono}
use lib.Signed.{mag, lt_z}
use mir.Syntax.{Width}
use mir.Val.{hbits, SFits, of_z, to_z}
use mir.ValLaws.{to_z-of_z}
use Rattle.integers.proofs.Parts.{pos_part, neg_part, nat_abs_parts, mag_of_parts, lt_z_true, lt_z_false}

-- ---- what fits

pub sfits_of_parts : (w : Width) (z : ℤ) → pos_part z < 2 ^ hbits w → neg_part z ≤ 2 ^ hbits w → SFits w z
sfits_of_parts w z a b = record { sfits = mag_of_parts z (2 ^ hbits w) a b }

pub sfits_of_abs : (w : Width) (z : ℤ) → nat_abs z < 2 ^ hbits w → SFits w z
sfits_of_abs w z h = let e = nat_abs_parts z in sfits_of_parts w z (omega arith) (omega arith)

-- a number that equals one that fits
pub sfits_by : {w : Width} {x y : ℤ} → x ≡ y → SFits w y → SFits w x
sfits_by {w} e f = subst (λ (z : ℤ). SFits w z) (sym e) f

-- what fits a width fits a wider one: `widen f tt`
pub widen : {w v : Width} {z : ℤ} → SFits w z → T (leb (hbits w) (hbits v)) → SFits v z
widen {w} {v} f t = record { sfits = lt_of_lt_of_le f.sfits (pow_mono (leb→le (hbits w) (hbits v) t)) }

-- ---- what is read back

-- a value that was stored and read, where it is known to be y and y fits
pub read_back : (w : Width) {x y : ℤ} → x ≡ y → SFits w y → to_z w (of_z w x) ≡ y
read_back w {x} {y} e f = ap (λ (z : ℤ). to_z w (of_z w z)) e ∙ to_z-of_z w y f

-- a value that was stored, read, cast to a wider type and read again: `widened w32 w64 f tt`
pub widened : (w v : Width) {z : ℤ} → SFits w z → T (leb (hbits w) (hbits v)) → to_z v (of_z v (to_z w (of_z w z))) ≡ z
widened w v {z} f t = read_back v (to_z-of_z w z f) (widen f t)

-- a callee's result that was stored, from its range (`c.f.ok`) and what the callee ensures
pub kept : (w : Width) {r z : ℤ} → mag r < 2 ^ hbits w → r ≡ z → to_z w (of_z w r) ≡ z
kept w {r} h e = to_z-of_z w r (record { sfits = h }) ∙ e

-- what a callee ensures of a signed argument z, which it got as what is read back
pub passed : {A : Type 0} (w : Width) (f : ℤ → A) {r : A} (z : ℤ) → SFits w z → r ≡ f (to_z w (of_z w z)) → r ≡ f z
passed w f z h e = e ∙ ap f (to_z-of_z w z h)

-- ---- tests

-- what a test `x < y` of a signed number x says, as a branch leaves it
module _ (w : Width) (x y : ℤ) (f : SFits w x) where
  pub below_taken : lt_z (to_z w (of_z w x)) y ≡ true → pos_part x + neg_part y < pos_part y + neg_part x
  below_taken e = lt_z_true x y (rw (to_z-of_z w x f) at e)

  pub below_left : lt_z (to_z w (of_z w x)) y ≡ false → pos_part y + neg_part x ≤ pos_part x + neg_part y
  below_left e = lt_z_false x y (rw (to_z-of_z w x f) at e)
