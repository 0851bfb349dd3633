-- Laws of division rounded down and of the remainder that is not negative. Assumes nothing.
use mathlib.Core.Path.{◌≡◌, ap}
use Prim.Native.Nat.{ℕ, suc, ◌+◌, ◌*◌, ◌/◌, ◌≤◌, ◌<◌}
use native.Mathlib.Nat.{suc-mul, add-mul, mod-lt, div-add-mod', lt_of_mul-lt-mul_right}
use native.Mathlib.Omega.{arith}
use lib.IntN.{ℤ, pos, negsuc, nat_abs, ◌-ℤ◌, ◌*ℤ◌}
use lib.Signed.{◌≤ℤ◌}
use Rattle.integers.specs.Rounding.{floor, residue}
use Rattle.integers.proofs.Parts.{pos_part, neg_part, parts_apart, nat_abs_parts, sub_parts, mul_pos_part, mul_neg_part, le_parts, parts_le}

pub residue_below : (z : ℤ) (m : ℕ) → 0 < m → residue z m < m
residue_below (pos a) m h = mod-lt a h
residue_below (negsuc a) m h = omega arith

-- z is floor z d times d, and the residue more
pub floor_split : (z : ℤ) (d : ℕ) → 0 < d → pos_part z + neg_part (floor z d) * d ≡ neg_part z + pos_part (floor z d) * d + residue z d
floor_split (pos a) d h = omega (arith, div-add-mod' a d)
floor_split (negsuc a) d h = let l = mod-lt a h in omega (arith, div-add-mod' a d, suc-mul (a / d) d)

-- floor z d is the greatest whole number whose product with d is not above z
pub floor_not_above : (z : ℤ) (d : ℕ) → 0 < d → (floor z d *ℤ pos d) ≤ℤ z
floor_not_above z d h =
    let s = floor_split z d h in
    parts_le (floor z d *ℤ pos d) z (omega (arith, mul_pos_part (floor z d) d, mul_neg_part (floor z d) d))

pub floor_greatest : (z q : ℤ) (d : ℕ) → 0 < d → (q *ℤ pos d) ≤ℤ z → q ≤ℤ (floor z d)
floor_greatest z q d h k =
    let s = floor_split z d h in
    let r = residue_below z d h in
    let f = floor z d in
    let a = pos_part q + neg_part f in
    let b = pos_part f + neg_part q in
    let ea = add-mul (pos_part q) (neg_part f) d in
    let eb = add-mul (pos_part f) (neg_part q) d in
    let l : a * d < suc b * d = omega (arith, le_parts k, mul_pos_part q d, mul_neg_part q d, ea, eb, suc-mul b d) in
    parts_le q f (omega (arith, lt_of_mul-lt-mul_right d l))

-- two numbers that are less than m * d apart are at most m apart when rounded down
pub floor_near : (t u : ℤ) (d m : ℕ) → 0 < d → nat_abs (u -ℤ t) < m * d → nat_abs (floor u d -ℤ floor t d) ≤ m
floor_near t u d m h k =
    let st = floor_split t d h in
    let su = floor_split u d h in
    let rt = residue_below t d h in
    let ru = residue_below u d h in
    let f = floor t d in
    let g = floor u d in
    let a = pos_part g + neg_part f in
    let b = neg_part g + pos_part f in
    let e = sub_parts u t in
    let n = nat_abs_parts (u -ℤ t) in
    let ea : a * d ≡ pos_part g * d + neg_part f * d = add-mul (pos_part g) (neg_part f) d in
    let eb : b * d ≡ neg_part g * d + pos_part f * d = add-mul (neg_part g) (pos_part f) d in
    let up : a * d < suc (b + m) * d = omega (arith, suc-mul (b + m) d, add-mul b m d) in
    let down : b * d < suc (a + m) * d = omega (arith, suc-mul (a + m) d, add-mul a m d) in
    omega (arith, lt_of_mul-lt-mul_right d up, lt_of_mul-lt-mul_right d down, nat_abs_parts (g -ℤ f), sub_parts g f, parts_apart (g -ℤ f))

-- a difference of numbers rounded down, times d, is within d of the difference of the numbers
pub floor_within : (t u : ℤ) (d : ℕ) → 0 < d → nat_abs ((floor u d -ℤ floor t d) *ℤ pos d -ℤ (u -ℤ t)) < d
floor_within t u d h =
    let st = floor_split t d h in
    let su = floor_split u d h in
    let rt = residue_below t d h in
    let ru = residue_below u d h in
    let f = floor t d in
    let g = floor u d in
    let x = g -ℤ f in
    let w = u -ℤ t in
    let ex : (pos_part x + (neg_part g + pos_part f)) * d ≡ (neg_part x + (pos_part g + neg_part f)) * d = ap (λ (n : ℕ). n * d) (sub_parts g f) in
    omega (
      arith,
      ex,
      sub_parts u t,
      sub_parts (x *ℤ pos d) w,
      nat_abs_parts (x *ℤ pos d -ℤ w),
      parts_apart (x *ℤ pos d -ℤ w),
      mul_pos_part x d,
      mul_neg_part x d,
      add-mul (pos_part x) (neg_part g + pos_part f) d,
      add-mul (neg_part g) (pos_part f) d,
      add-mul (neg_part x) (pos_part g + neg_part f) d,
      add-mul (pos_part g) (neg_part f) d,
    )
