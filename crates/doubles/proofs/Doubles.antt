-- Every double is exact: a whole number of at most 2 ^ 53 in size over a power of two of at most 2 ^ 31 is a double, and the only one of its
-- value (01, Status, doubles, gaps; Totals). Assumes nothing.
use mathlib.Core.Path.{◌≡◌, refl, sym, ap, ◌∙◌, subst}
use mathlib.Core.Bool.{Bool, true, false, cond}
use mathlib.Core.List.{List, [], ◌∷◌}
use mathlib.Core.Logic.{◌⊎◌, inl, inr}
use Prim.Native.Nat.{ℕ, zero, suc, ◌+◌, ◌-◌, ◌*◌, ◌/◌, ◌%◌, ◌^◌, ◌≤◌, ◌<◌}
use native.Mathlib.Nat.{eq-or-lt_of_le, lt_of_lt_of_le, mul-one, one-mul, zero-mul, mul_assoc, mul_comm, mul_right_comm, mul-pos, lt_irrefl}
use native.Mathlib.Omega.{arith}
use borrow.Author.Tests.{leb-true, le-leb}
use lib.Dec.{T, leb, eqb, eqb-suc-zero, le→leb, lt→ltb, lit<}
use lib.Pow.{pow_pos, pow_mono, pow-lt, pow-add, shl_lt}
use lib.IntN.{ℤ, pos, negsuc, nat_abs}
use lib.ListN.{get_or}
use lib.Ieee.{Float, nan, inf, fin, Format, binary64, prec, low, up, down, hid, top, size, to_bits, unlike, round, div, of_int, in_float as cast_in_float, of_bits, fits}
use lib.Ieee.Exact.{HasValue, round_exact}
use lib.Ieee.Back.{round_whole}
use lib.Ieee.Fits.{down_pos, round-fits}
use lib.Ieee.Scale.{round_same}
use lib.Ieee.Nearest.{div_same}
use lib.Ieee.Bits.{of_bits-to_bits}
use Rattle.integers.proofs.Ranges.{le_within}
use Rattle.setup.specs.Setup.{unit_number}
use Rattle.setup.specs.declared.Unit.{Unit}
use Rattle.setup.specs.declared.Unit.TheVariants.{Instantaneous, Incremental, Average, Integrated}
use Rattle.setup.specs.Sensor.{Units}
use Rattle.setup.specs.Sensor.{Shifts}
use Rattle.setup.proofs.Refusals.{each}
use Rattle.motion.specs.Totals.{axis_at}
use Rattle.motion.specs.declared.Axis.{Axis}
use Rattle.motion.specs.Totals.{Axes}
use Rattle.motion.proofs.NineAxes.{each_axis}
use Rattle.doubles.specs.Doubles.{negative, quotient, plus_zero, known_shift, unit_number_in, doubles_in, values_in, values_of, shift_in, values_at}
use Rattle.doubles.specs.Doubles.{group_values, values_for, total_double, total_doubles, double_at}

-- ---- what the code computes: a quotient of two floats that have whole values is rounded once

not_zero : (m : ℕ) (e : ℤ) (b : ℕ) → 0 < b → m * up e * 1 ≡ b * down e → eqb m 0 ≡ false
not_zero zero e b h k =
    absurd (lt_irrefl 0 (subst (λ (x : ℕ). 0 < x) (sym k ∙ ap (λ (y : ℕ). y * 1) (zero-mul (up e)) ∙ zero-mul 1) (mul-pos h (down_pos e))))
not_zero (suc m) e b h k = eqb-suc-zero m

unlike_false : (s : Bool) → unlike s false ≡ s
unlike_false true = refl
unlike_false false = refl

cross : (x y a b u v : ℕ) → x ≡ a * u → y ≡ b * v → x * v * b ≡ a * (y * u)
cross x y a b u v e f =
    ap (λ (z : ℕ). z * v * b) e
    ∙ mul_assoc (a * u) v b
    ∙ mul_assoc a u (v * b)
    ∙ ap (λ (z : ℕ). a * z) (mul_comm u (v * b) ∙ ap (λ (z : ℕ). z * u) (mul_comm v b ∙ sym f))

div_values : (f : Format) (x y : Float) (s : Bool) (a b : ℕ) → 0 < b → HasValue x s a 1 → HasValue y false b 1 → div f x y ≡ round f s a b
unfolding div
div_values f nan y s a b h p q = elim p [ ]
div_values f (inf _) y s a b h p q = elim p [ ]
div_values f (fin s' m e) nan s a b h p q = elim q [ ]
div_values f (fin s' m e) (inf _) s a b h p q = elim q [ ]
div_values f (fin s' m e) (fin t n d) s a b h p q =
    let ex : m * up e ≡ a * down e = sym (mul-one (m * up e)) ∙ p.1 in
    let ey : n * up d ≡ b * down d = sym (mul-one (n * up d)) ∙ q.1 in
    let bp : 0 < n * up d * down e = mul-pos (subst (λ (z : ℕ). 0 < z) (sym ey) (mul-pos h (down_pos d))) (down_pos e) in
    ap (λ (c : Bool). cond c (cond (eqb m 0) nan (inf (unlike s' t))) (round f (unlike s' t) (m * up e * down d) (n * up d * down e)))
    (not_zero n d b h q.1)
    ∙ ap (λ (c : Bool). round f (unlike s' c) (m * up e * down d) (n * up d * down e)) q.0
    ∙ ap (λ (c : Bool). round f c (m * up e * down d) (n * up d * down e)) (unlike_false s' ∙ p.0)
    ∙ round_same f s (m * up e * down d) (n * up d * down e) a b bp h (cross (m * up e) (n * up d) a b (down e) (down d) ex ey)

-- a whole number as a float has its value
whole_value : (n : ℤ) → nat_abs n ≤ 2 ^ 53 → HasValue (of_int binary64 n) (negative n) (nat_abs n) 1
unfolding of_int
whole_value (pos n) h = round_whole binary64 false n h
whole_value (negsuc n) h = round_whole binary64 true (suc n) h

-- what the cast of a total to f64 asks
pub in_float : (n : ℤ) → nat_abs n ≤ 2 ^ 53 → T (cast_in_float binary64 n)
unfolding cast_in_float
in_float (pos n) h = le→leb n (2 ^ 53) h
in_float (negsuc n) h = lt→ltb n (2 ^ 53) h

small_power : (k : ℕ) → k ≤ 31 → 2 ^ k ≤ 2 ^ 53
small_power k h = let l : k ≤ 53 = omega arith in pow_mono l

pub computed : (n : ℤ) (k : ℕ) → nat_abs n ≤ 2 ^ 53 → k ≤ 31 → div binary64 (of_int binary64 n) (of_int binary64 (pos (2 ^ k))) ≡ quotient n k
unfolding quotient
computed n k h b =
    div_values binary64 (of_int binary64 n) (of_int binary64 (pos (2 ^ k))) (negative n) (nat_abs n) (2 ^ k) (pow_pos k) (whole_value n h)
    (whole_value (pos (2 ^ k)) (small_power k b))

-- ---- it is exact

-- q * 2 ^ j of the smallest doubles: n / 2 ^ k is n * 2 ^ (1074 - k) of them, and 2 ^ 53 / 2 ^ k is 2 ^ (1127 - k)
whole_power : (k l : ℕ) → k ≤ l → 2 ^ l ≡ 2 ^ (l - k) * 2 ^ k
whole_power k l h = let e : l - k + k ≡ l = omega arith in ap (λ (x : ℕ). 2 ^ x) (sym e) ∙ pow-add 2 (l - k) k

below_top : (s : Bool) (n k : ℕ) → n < 2 ^ 53 → k ≤ 31 → HasValue (round binary64 s n (2 ^ k)) s n (2 ^ k)
below_top s n k h b =
    let l : k ≤ 1074 = omega arith in
    let m : 53 + (1074 - k) ≤ 2098 = omega arith in
    round_exact binary64 s n (2 ^ k) n (1074 - k) (pow_pos k) h (lt_of_lt_of_le (shl_lt 53 (1074 - k) h) (pow_mono m))
    (ap (λ (x : ℕ). n * x) (whole_power k 1074 l) ∙ sym (mul_assoc n (2 ^ (1074 - k)) (2 ^ k)))

at_top : (s : Bool) (k : ℕ) → k ≤ 31 → HasValue (round binary64 s (2 ^ 53) (2 ^ k)) s (2 ^ 53) (2 ^ k)
at_top s k b =
    let l : k ≤ 1127 = omega arith in
    let m : 1127 - k < 2098 = omega arith in
    round_exact binary64 s (2 ^ 53) (2 ^ k) 1 (1127 - k) (pow_pos k) (lit< tt)
    (subst (λ (x : ℕ). x < 2 ^ 2098) (sym (one-mul (2 ^ (1127 - k)))) (pow-lt m))
    (sym (pow-add 2 53 1074) ∙ whole_power k 1127 l ∙ ap (λ (x : ℕ). x * 2 ^ k) (sym (one-mul (2 ^ (1127 - k)))))

exact_by : (s : Bool) (n k : ℕ) → k ≤ 31 → (n ≡ 2 ^ 53) ⊎ (n < 2 ^ 53) → HasValue (round binary64 s n (2 ^ k)) s n (2 ^ k)
exact_by s n k b (inl e) = subst (λ (x : ℕ). HasValue (round binary64 s x (2 ^ k)) s x (2 ^ k)) (sym e) (at_top s k b)
exact_by s n k b (inr h) = below_top s n k h b

-- the double has the sign of n, and is |n| / 2 ^ k in size
pub exact : (n : ℤ) (k : ℕ) → nat_abs n ≤ 2 ^ 53 → k ≤ 31 → HasValue (quotient n k) (negative n) (nat_abs n) (2 ^ k)
unfolding quotient
exact n k h b = exact_by (negative n) (nat_abs n) k b (eq-or-lt_of_le h)

-- ---- no other double has its value: two doubles of one sign and one size are one

bits_of : Format → Bool → ℕ → ℕ
bits_of f s n = let k = size n - prec f in cond s (top f) 0 + k * hid f + n / 2 ^ k

bits_by_value : (f : Format) (x : Float) (s : Bool) (a c : ℕ) → 0 < c → HasValue x s a c → to_bits f x ≡ bits_of f s (a * 2 ^ low f / c)
unfolding to_bits bits_of
bits_by_value f nan s a c h v = elim v [ ]
bits_by_value f (inf _) s a c h v = elim v [ ]
bits_by_value f (fin t m e) s a c h v =
    let cross : m * up e * 2 ^ low f * c ≡ a * 2 ^ low f * down e =
    mul_right_comm (m * up e) (2 ^ low f) c ∙ ap (λ (x : ℕ). x * 2 ^ low f) v.1 ∙ mul_right_comm a (down e) (2 ^ low f) in
    let same : m * up e * 2 ^ low f / down e ≡ a * 2 ^ low f / c = div_same (m * up e * 2 ^ low f) (down e) (a * 2 ^ low f) c (down_pos e) h cross in
    ap (λ (n : ℕ). bits_of f t n) same ∙ ap (λ (b : Bool). bits_of f b (a * 2 ^ low f / c)) v.0

value_unique : (f : Format) (x y : Float) (s : Bool) (a c : ℕ) → 0 < c → T (fits f x) → T (fits f y) → HasValue x s a c → HasValue y s a c → x ≡ y
value_unique f x y s a c h p q v w =
    sym (of_bits-to_bits f x p) ∙ ap (of_bits f) (bits_by_value f x s a c h v ∙ sym (bits_by_value f y s a c h w)) ∙ of_bits-to_bits f y q

pub only : (n : ℤ) (k : ℕ) → nat_abs n ≤ 2 ^ 53 → k ≤ 31
    → (x : Float) → T (fits binary64 x) → HasValue x (negative n) (nat_abs n) (2 ^ k) → x ≡ quotient n k
unfolding quotient
only n k h b x p v =
    value_unique binary64 x (quotient n k) (negative n) (nat_abs n) (2 ^ k) (pow_pos k) p (round-fits binary64 (negative n) (nat_abs n) (2 ^ k))
    v (exact n k h b)

-- ---- zero is +0

plus : round binary64 false 0 1 ≡ plus_zero
unfolding round
plus = refl

pub zero_plus : (k : ℕ) → quotient (pos 0) k ≡ plus_zero
unfolding quotient
zero_plus k = round_same binary64 false 0 (2 ^ k) 0 1 (pow_pos k) (lit< tt) (zero-mul 1 ∙ sym (zero-mul (2 ^ k))) ∙ plus

-- ---- shifts of a setup

pub shift_small : (k : ℕ) → known_shift k ≤ 31
unfolding known_shift
shift_small k = by (leb k 31) refl
  where
    by : (t : Bool) → leb k 31 ≡ t → cond t k 0 ≤ 31
    by true e = leb-true k 31 e
    by false e = omega arith

pub shift_known : (k : ℕ) → k ≤ 31 → known_shift k ≡ k
unfolding known_shift
shift_known k h = rw (le-leb k 31 h)

-- ---- of readings, which are at most 2 ^ 31 in size, and of totals

module _ (n : ℤ) (shift : ℕ) (h : nat_abs n ≤ 2 ^ 31) where
  pub reading_exact : HasValue (quotient n (known_shift shift)) (negative n) (nat_abs n) (2 ^ known_shift shift)
  reading_exact = exact n (known_shift shift) (omega arith) (shift_small shift)

  pub reading_only : (x : Float) → T (fits binary64 x) → HasValue x (negative n) (nat_abs n) (2 ^ known_shift shift) → x ≡ quotient n (known_shift shift)
  reading_only = only n (known_shift shift) (omega arith) (shift_small shift)

module _ (a : Axis) (shift : ℕ) (h : nat_abs a.total ≤ 2 ^ 53) where
  total_quotient : total_double a shift ≡ quotient a.total (known_shift shift)
  unfolding total_double
  total_quotient = rw (le_within (2 ^ 53) a.total h)

  pub total_exact : HasValue (total_double a shift) (negative a.total) (nat_abs a.total) (2 ^ known_shift shift)
  total_exact = rw total_quotient (exact a.total (known_shift shift) h (shift_small shift))

  pub total_only : (x : Float) → T (fits binary64 x)
      → HasValue x (negative a.total) (nat_abs a.total) (2 ^ known_shift shift) → x ≡ total_double a shift
  total_only x p v = only a.total (known_shift shift) h (shift_small shift) x p v ∙ sym total_quotient

pub total_plus : (a : Axis) (shift : ℕ) → a.total ≡ pos 0 → total_double a shift ≡ plus_zero
unfolding total_double
total_plus a shift e = rw (e, zero_plus (known_shift shift))

-- ---- the values of a group are told by their unit and their doubles

unit_in_lem : (unit : Unit) (x y z : Float) → unit_number_in (values_in unit x y z) ≡ unit_number unit
unfolding values_in
unit_in_lem Instantaneous x y z = refl
unit_in_lem Incremental x y z = refl
unit_in_lem Average x y z = refl
unit_in_lem Integrated x y z = refl

doubles_in_lem : (unit : Unit) (x y z : Float) → doubles_in (values_in unit x y z) ≡ x ∷ y ∷ z ∷ []
unfolding values_in
doubles_in_lem Instantaneous x y z = refl
doubles_in_lem Incremental x y z = refl
doubles_in_lem Average x y z = refl
doubles_in_lem Integrated x y z = refl

module _ (unit : Unit) (shift : ℕ) (readings : List ℤ) where
  -- they come back under 01's number of the unit
  pub values_unit : unit_number_in (values_of unit shift readings) ≡ unit_number unit
  unfolding values_of
  values_unit = unit_in_lem unit _ _ _

  -- with a double for each reading
  pub values_double : (axis : ℕ) → axis < 3
      → get_or (doubles_in (values_of unit shift readings)) axis plus_zero ≡ quotient (get_or readings axis (pos 0)) (known_shift shift)
  unfolding values_of
  values_double axis h =
      let double : ℕ → Float = λ n. quotient (get_or readings n (pos 0)) (known_shift shift) in
      ap (λ (l : List Float). get_or l axis plus_zero) (doubles_in_lem unit (double 0) (double 1) (double 2))
      ∙ each (λ (n : ℕ). get_or (double 0 ∷ double 1 ∷ double 2 ∷ []) n plus_zero ≡ double n) refl refl refl axis h

-- the values of a group
pub values_at_lem : (units : Units) (shifts : Shifts) (readings : List (List ℤ)) (group : ℕ) → group < 3
    → values_for (group_values units shifts readings) group ≡ values_at units shifts readings group
unfolding group_values
values_at_lem units shifts readings =
    each (λ n. values_for (group_values units shifts readings) n ≡ values_at units shifts readings n) refl refl refl

-- ---- the double of an axis, as it comes back

pub double_at_lem : (s : Shifts) (a : Axes) (group axis : ℕ) → group < 3 → axis < 3
    → double_at (total_doubles s a) group axis ≡ total_double (axis_at a group axis) (shift_in s group)
unfolding total_doubles
double_at_lem s a =
    each_axis (λ n m. double_at (total_doubles s a) n m ≡ total_double (axis_at a n m) (shift_in s n)) (refl, refl, refl) (refl, refl, refl)
    (refl, refl, refl)
