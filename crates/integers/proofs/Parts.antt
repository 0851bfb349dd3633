-- A whole number by its two parts: `pos_part x` is x where x is above 0 and else 0, and `neg_part x` is the same of -x. Each operation of
-- `lib.IntN` has a law on the parts that is linear, so `omega`, which reads no ℤ, proves a fact about whole numbers once it is stated on parts:
--     an equation      parts-ext lhs rhs (omega (arith, add_parts .., sub_parts .., ..)), with one law for each operation that occurs
--     a bound of size  natAbs-parts z and parts-apart z in omega's list
-- Assumes nothing.
use mathlib.Core.Path.{◌≡◌, refl, sym, ap, ◌∙◌, subst}
use mathlib.Core.Bool.{Bool, true, false, cond}
use Prim.Native.Nat.{ℕ, zero, suc, ◌+◌, ◌-◌, ◌*◌, ◌≤◌, ◌<◌, min}
use native.Mathlib.Nat.{add-zero, zero-add, zero-mul}
use native.Mathlib.Omega.{arith}
use lib.Dec.{T, ltb, leb, leb→le, leb-suc-suc}
use lib.IntN.{ℤ, pos, negsuc, neg_ℤ, nat_abs, sub_ℕ, ◌+ℤ◌, ◌-ℤ◌, ◌*ℤ◌}
use lib.Signed.{mag, le_z, lt_z, ◌≤ℤ◌}
use borrow.Author.Tests.{ltb-true, ltb-false, leb-true, lt-ltb, le-ltb, le-leb, lt-leb}

abbrev pub pos_part : ℤ → ℕ
pos_part (pos n) = n
pos_part (negsuc n) = 0

abbrev pub neg_part : ℤ → ℕ
neg_part (pos n) = 0
neg_part (negsuc n) = suc n

-- one of the two is 0
pub parts_apart : (x : ℤ) → min (pos_part x) (neg_part x) ≡ 0
parts_apart (pos n) = omega arith
parts_apart (negsuc n) = omega arith

-- two whole numbers are equal by their parts
pub parts_ext : (x y : ℤ) → pos_part x + neg_part y ≡ pos_part y + neg_part x → x ≡ y
parts_ext (pos a) (pos b) h = let e : a ≡ b = omega arith in ap pos e
parts_ext (pos a) (negsuc b) h = let z : ⊥ = omega arith in absurd z
parts_ext (negsuc a) (pos b) h = let z : ⊥ = omega arith in absurd z
parts_ext (negsuc a) (negsuc b) h = let e : a ≡ b = omega arith in ap negsuc e

pub parts_of_eq : {x y : ℤ} → x ≡ y → pos_part x + neg_part y ≡ pos_part y + neg_part x
parts_of_eq {x} {y} e = subst (λ (z : ℤ). pos_part x + neg_part z ≡ pos_part z + neg_part x) e refl

pub nat_abs_parts : (x : ℤ) → nat_abs x ≡ pos_part x + neg_part x
nat_abs_parts (pos n) = omega arith
nat_abs_parts (negsuc n) = omega arith

-- `mag x < h` is -h ≤ x < h
pub mag_of_parts : (x : ℤ) (h : ℕ) → pos_part x < h → neg_part x ≤ h → mag x < h
mag_of_parts (pos n) h a b = a
mag_of_parts (negsuc n) h a b = b

pub parts_of_mag : (x : ℤ) (h : ℕ) → mag x < h → (pos_part x < h) × (neg_part x ≤ h)
parts_of_mag (pos n) h a = omega arith
parts_of_mag (negsuc n) h a = omega arith

-- ---- the operations

-- a - b by which is larger
pub sub_ℕ_cases : (a b : ℕ) (P : ℤ → Type 0) → (a < b → P (negsuc (b - suc a))) → (b ≤ a → P (pos (a - b))) → P (sub_ℕ a b)
sub_ℕ_cases a b P f g = by (ltb a b) refl
  where
    by : (t : Bool) → ltb a b ≡ t → P (cond t (negsuc (b - suc a)) (pos (a - b)))
    by true e = f (ltb-true a b e)
    by false e = g (ltb-false a b e)

pub sub_ℕ_parts : (a b : ℕ) → pos_part (sub_ℕ a b) + b ≡ neg_part (sub_ℕ a b) + a
sub_ℕ_parts a b = sub_ℕ_cases a b (λ (z : ℤ). pos_part z + b ≡ neg_part z + a) (λ h. omega arith) (λ h. omega arith)

pub add_parts : (x y : ℤ) → pos_part (x +ℤ y) + (neg_part x + neg_part y) ≡ neg_part (x +ℤ y) + (pos_part x + pos_part y)
add_parts (pos a) (pos b) = omega arith
add_parts (pos a) (negsuc b) = omega (arith, sub_ℕ_parts a (suc b))
add_parts (negsuc a) (pos b) = omega (arith, sub_ℕ_parts b (suc a))
add_parts (negsuc a) (negsuc b) = omega arith

pub neg_pos_part : (x : ℤ) → pos_part (neg_ℤ x) ≡ neg_part x
neg_pos_part (pos zero) = refl
neg_pos_part (pos (suc n)) = refl
neg_pos_part (negsuc n) = refl

pub neg_neg_part : (x : ℤ) → neg_part (neg_ℤ x) ≡ pos_part x
neg_neg_part (pos zero) = refl
neg_neg_part (pos (suc n)) = refl
neg_neg_part (negsuc n) = refl

pub sub_parts : (x y : ℤ) → pos_part (x -ℤ y) + (neg_part x + pos_part y) ≡ neg_part (x -ℤ y) + (pos_part x + neg_part y)
sub_parts x y = omega (arith, add_parts x (neg_ℤ y), neg_pos_part y, neg_neg_part y)

pub mul_pos_part : (x : ℤ) (d : ℕ) → pos_part (x *ℤ pos d) ≡ pos_part x * d
mul_pos_part (pos a) d = refl
mul_pos_part (negsuc a) d = neg_pos_part (pos (suc a * d)) ∙ sym (zero-mul d)

pub mul_neg_part : (x : ℤ) (d : ℕ) → neg_part (x *ℤ pos d) ≡ neg_part x * d
mul_neg_part (pos a) d = sym (zero-mul d)
mul_neg_part (negsuc a) d = neg_neg_part (pos (suc a * d))

-- ---- equations of differences

pub sub_self : (x : ℤ) → x -ℤ x ≡ pos 0
sub_self x = parts_ext (x -ℤ x) (pos 0) (omega (arith, sub_parts x x))

-- two differences in a row add up
pub sub_chain : (x y z : ℤ) → (y -ℤ x) +ℤ (z -ℤ y) ≡ z -ℤ x
sub_chain x y z =
    parts_ext ((y -ℤ x) +ℤ (z -ℤ y)) (z -ℤ x) (omega (arith, add_parts (y -ℤ x) (z -ℤ y), sub_parts y x, sub_parts z y, sub_parts z x))

-- ---- the order: a test on whole numbers is a test on parts

pub lt_z_parts : (x y : ℤ) → lt_z x y ≡ ltb (pos_part x + neg_part y) (pos_part y + neg_part x)
lt_z_parts (pos a) (pos b) = simp add-zero
lt_z_parts (pos a) (negsuc b) = sym (le-ltb (a + suc b) 0 (omega arith))
lt_z_parts (negsuc a) (pos b) = sym (lt-ltb 0 (b + suc a) (omega arith))
lt_z_parts (negsuc a) (negsuc b) = simp zero-add (sym (leb-suc-suc (suc b) a))

pub le_z_parts : (x y : ℤ) → le_z x y ≡ leb (pos_part x + neg_part y) (pos_part y + neg_part x)
le_z_parts (pos a) (pos b) = simp add-zero
le_z_parts (pos a) (negsuc b) = sym (lt-leb (a + suc b) 0 (omega arith))
le_z_parts (negsuc a) (pos b) = sym (le-leb 0 (b + suc a) (omega arith))
le_z_parts (negsuc a) (negsuc b) = simp zero-add (sym (leb-suc-suc b a))

module _ (x y : ℤ) where
  -- what a branch on a test leaves, and the other way; the names are those of `borrow.Author.Tests`, with Z for b
  pub lt_z_true : lt_z x y ≡ true → pos_part x + neg_part y < pos_part y + neg_part x
  lt_z_true e = ltb-true (pos_part x + neg_part y) (pos_part y + neg_part x) (sym (lt_z_parts x y) ∙ e)

  pub lt_z_false : lt_z x y ≡ false → pos_part y + neg_part x ≤ pos_part x + neg_part y
  lt_z_false e = ltb-false (pos_part x + neg_part y) (pos_part y + neg_part x) (sym (lt_z_parts x y) ∙ e)

  pub le_z_true : le_z x y ≡ true → pos_part x + neg_part y ≤ pos_part y + neg_part x
  le_z_true e = leb-true (pos_part x + neg_part y) (pos_part y + neg_part x) (sym (le_z_parts x y) ∙ e)

  pub le_le_z : pos_part x + neg_part y ≤ pos_part y + neg_part x → le_z x y ≡ true
  le_le_z h = le_z_parts x y ∙ le-leb (pos_part x + neg_part y) (pos_part y + neg_part x) h

  pub parts_le : pos_part x + neg_part y ≤ pos_part y + neg_part x → x ≤ℤ y
  parts_le h = record { le = subst T (sym (le_le_z h)) tt }

pub le_parts : {x y : ℤ} → x ≤ℤ y → pos_part x + neg_part y ≤ pos_part y + neg_part x
le_parts {x} {y} h = leb→le (pos_part x + neg_part y) (pos_part y + neg_part x) (subst T (le_z_parts x y) h.le)
