-- Laws of folding: it stays in the range of a reading and keeps the class modulo 2 ^ 24, and nothing else does both. Assumes nothing.
use mathlib.Core.Path.{◌≡◌, sym}
use Prim.Native.Nat.{ℕ, ◌+◌, ◌*◌, ◌/◌, ◌%◌, ◌≤◌, ◌<◌}
use native.Mathlib.Omega.{arith}
use lib.IntN.{ℤ, pos, nat_abs, ◌+ℤ◌, ◌-ℤ◌}
use lib.Signed.{mag}
use Rattle.integers.specs.Rounding.{floor, residue}
use Rattle.integers.specs.Folding.{fold}
use Rattle.integers.proofs.Parts.{pos_part, neg_part, parts_apart, parts_ext, parts_of_eq, nat_abs_parts, mag_of_parts, add_parts, sub_parts}
use Rattle.integers.proofs.Rounding.{residue_below, floor_split}
use Rattle.integers.proofs.Bytes.{Complement, twos_complement_range}

-- x and y differ by a multiple of 2 ^ 24
pub record Congruent (x y : ℤ) : Type 0 where
  pub more : ℕ
  pub less : ℕ
  pub same : pos_part x + neg_part y + 16777216 * more ≡ neg_part x + pos_part y + 16777216 * less

-- -8388608 ≤ x ≤ 8388607
pub record InRange (x : ℤ) : Type 0 where
  pub above : neg_part x ≤ 8388608
  pub below : pos_part x < 8388608

pub range_of_abs : (x : ℤ) → nat_abs x < 8388608 → InRange x
range_of_abs x h = let e = nat_abs_parts x in record { above = omega arith; below = omega arith }

pub abs_of_range : (x : ℤ) → InRange x → nat_abs x ≤ 8388608
abs_of_range x h = omega (arith, nat_abs_parts x, parts_apart x)

-- ---- folding's two facts

folded : (z : ℤ) → Complement 24 (residue z 16777216) (fold z)
unfolding fold
folded z = twos_complement_range 24 (residue z 16777216) (residue_below z 16777216 (omega arith))

pub fold_range : (z : ℤ) → InRange (fold z)
fold_range z = let f = folded z in record { above = omega arith; below = omega arith }

pub fold_congruent : (z : ℤ) → Congruent (fold z) z
fold_congruent z =
    let f = folded z in
    let s = floor_split z 16777216 (omega arith) in
    record { more = f.carry + pos_part (floor z 16777216); less = neg_part (floor z 16777216); same = omega arith }

-- ---- and nothing else has both

pub range_unique : (x y : ℤ) → InRange x → InRange y → Congruent x y → x ≡ y
range_unique x y p q c = parts_ext x y (omega (arith, parts_apart x, parts_apart y))

pub congruent_refl : (x : ℤ) → Congruent x x
congruent_refl x = record { more = 0; less = 0; same = omega arith }

pub congruent_sym : {x y : ℤ} → Congruent x y → Congruent y x
congruent_sym c = record { more = c.less; less = c.more; same = omega arith }

pub congruent_trans : {x y z : ℤ} → Congruent x y → Congruent y z → Congruent x z
congruent_trans c d = record { more = c.more + d.more; less = c.less + d.less; same = omega arith }

pub congruent_sub : (x y u v : ℤ) → Congruent x u → Congruent y v → Congruent (x -ℤ y) (u -ℤ v)
congruent_sub x y u v c d = record { more = c.more + d.less; less = c.less + d.more; same = omega (arith, sub_parts x y, sub_parts u v) }

pub fold_unique : (x z : ℤ) → InRange x → Congruent x z → x ≡ fold z
fold_unique x z p c = range_unique x (fold z) p (fold_range z) (congruent_trans c (congruent_sym (fold_congruent z)))

pub fold_id : (z : ℤ) → InRange z → fold z ≡ z
fold_id z p = sym (fold_unique z z p (congruent_refl z))

-- a difference of folded numbers, folded, is that of the numbers
pub fold_sub : (x y : ℤ) → fold (fold x -ℤ fold y) ≡ fold (x -ℤ y)
fold_sub x y =
    fold_unique (fold (fold x -ℤ fold y)) (x -ℤ y) (fold_range (fold x -ℤ fold y))
    (congruent_trans (fold_congruent (fold x -ℤ fold y)) (congruent_sub (fold x) (fold y) x y (fold_congruent x) (fold_congruent y)))

-- ---- the difference in code: a and b are n and o lifted by k, so that neither is negative; r is a - b, wrapped at a multiple of 2 ^ 24;
-- its remainder is then brought into the range
module _ (n o : ℤ) (k a b r j : ℕ) (ea : pos a ≡ n +ℤ pos k) (eb : pos b ≡ o +ℤ pos k) (er : r + b ≡ a + 16777216 * j) where
  apart : pos_part (n -ℤ o) + b ≡ neg_part (n -ℤ o) + a
  apart = omega (arith, parts_of_eq ea, parts_of_eq eb, add_parts n (pos k), add_parts o (pos k), sub_parts n o)

  pub wrapped_low : r % 16777216 < 8388608 → pos (r % 16777216) ≡ fold (n -ℤ o)
  wrapped_low h =
      fold_unique (pos (r % 16777216)) (n -ℤ o) (record { above = omega arith; below = omega arith })
      (record { more = r / 16777216; less = j; same = omega (arith, apart) })

  pub wrapped_high : 8388608 ≤ r % 16777216 → pos (r % 16777216) -ℤ pos 16777216 ≡ fold (n -ℤ o)
  wrapped_high h =
      let x = pos (r % 16777216) -ℤ pos 16777216 in
      let e = sub_parts (pos (r % 16777216)) (pos 16777216) in
      let q = parts_apart x in
      fold_unique x (n -ℤ o) (record { above = omega arith; below = omega arith })
      (record { more = r / 16777216 + 1; less = j; same = omega (arith, apart) })

-- what that subtraction needs: its result fits 32 bits and more
pub wrapped_fits : (r : ℕ) → mag (pos (r % 16777216) -ℤ pos 16777216) < 16777217
wrapped_fits r =
    let x = pos (r % 16777216) -ℤ pos 16777216 in
    let e = sub_parts (pos (r % 16777216)) (pos 16777216) in
    let q = parts_apart x in
    mag_of_parts x 16777217 (omega arith) (omega arith)
