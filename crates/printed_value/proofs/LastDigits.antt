-- The last k digits of a number: so many, digits only, and the number again behind what stands before them; and digits as the number that they write.
use mathlib.Core.Path.{◌≡◌, refl, sym, ap, ◌∙◌}
use mathlib.Core.Bool.{true}
use mathlib.Core.List.{List, [], ◌∷◌, ◌++◌, append_assoc, append-nil}
use Prim.Native.Nat.{ℕ, zero, suc, ◌+◌, ◌-◌, ◌*◌, ◌/◌, ◌%◌, ◌^◌, ◌≤◌, ◌<◌}
use native.Mathlib.Nat.{pow-suc, mul_assoc, div-one, zero-add, div-div-eq-div-mul, pow-succ'}
use native.Mathlib.Omega.{arith}
use lib.ListN.{length, length-append, get_or}
use Rattle.integers.proofs.Booleans.{and_split}
use Rattle.setup_line.specs.SetupLine.{is_digit, digit_value, all_digits, decimal_from, decimal_value}
use Rattle.setup_line.proofs.Digits.{digit_range}
use Rattle.shown_line.specs.Decimal.{digits}
use Rattle.shown_line.proofs.Digits.{digits_small, digits_large, digits_ind, digit_is, digit_value_lem, value_append, all_append}
use Rattle.printed_value.specs.PrintedValue.{last_digits}

-- ---- the last digits of a number

-- none, and one more than those of its tenth
pub last_none : (k m : ℕ) → k < 1 → last_digits k m ≡ []
unfolding last_digits
last_none zero m h = refl
last_none (suc k) m h = absurd (omega arith)

pub last_more : (k m : ℕ) → 1 ≤ k → last_digits k m ≡ last_digits (k - 1) (m / 10) ++ (0x30 + m % 10) ∷ []
unfolding last_digits
last_more zero m h = absurd (omega arith)
last_more (suc k) m h = let e : k ≡ suc k - 1 = omega arith in ap (λ (j : ℕ). last_digits j (m / 10) ++ (0x30 + m % 10) ∷ []) e

pub last_length : (k m : ℕ) → length (last_digits k m) ≡ k
unfolding last_digits
last_length zero m = refl
last_length (suc k) m = length-append (last_digits k (m / 10)) ((0x30 + m % 10) ∷ []) ∙ rw (last_length k (m / 10)) (omega arith)

pub last_all : (k m : ℕ) → all_digits (last_digits k m) ≡ true
unfolding last_digits all_digits
last_all zero m = refl
last_all (suc k) m = all_append (last_digits k (m / 10)) (0x30 + m % 10) (last_all k (m / 10)) (digit_is (m % 10) (omega arith))

-- all digits of a number
pub last_whole : (m : ℕ) → last_digits (length (digits m)) m ≡ digits m
unfolding last_digits
last_whole =
    digits_ind (λ n ds. last_digits (length ds) n ≡ ds) (λ n h. let e : n % 10 ≡ n = omega arith in rw e)
    (λ n ds h e. let s : length (ds ++ (0x30 + n % 10) ∷ []) ≡ suc (length ds) = length-append ds ((0x30 + n % 10) ∷ []) ∙ omega arith in rw (s, e))

-- the last k digits don't depend on what stands before them
pub last_behind : (k c m : ℕ) → last_digits k (c * 10 ^ k + m) ≡ last_digits k m
unfolding last_digits
last_behind zero c m = refl
last_behind (suc k) c m =
    let s : c * 10 ^ suc k ≡ c * 10 ^ k * 10 = rw (pow-suc 10 k) (sym (mul_assoc c (10 ^ k) 10)) in
    let over : (c * 10 ^ suc k + m) / 10 ≡ c * 10 ^ k + m / 10 = omega arith in
    let left : (c * 10 ^ suc k + m) % 10 ≡ m % 10 = omega arith in
    rw (over, left, last_behind k c (m / 10))

ten_over : (m k : ℕ) → m / 10 / 10 ^ k ≡ m / 10 ^ suc k
ten_over m k = div-div-eq-div-mul m 10 (10 ^ k) ∙ ap (λ (d : ℕ). m / d) (sym (pow-succ' 10 k))

-- behind what stands before them they make the number
pub last_value : (k m : ℕ) → decimal_from (m / 10 ^ k) (last_digits k m) ≡ m
unfolding last_digits decimal_from
last_value zero m = div-one m
last_value (suc k) m =
    rw (← ten_over m k)
    (value_append (m / 10 / 10 ^ k) (last_digits k (m / 10)) ((0x30 + m % 10) ∷ [])
    ∙ rw (last_value k (m / 10), digit_value_lem (m % 10) (omega arith)) (omega arith))

-- ---- the number that digits write

-- a byte that is a digit, by its value
digit_byte : (x : ℕ) → is_digit x ≡ true → (0x30 + digit_value x ≡ x) × (digit_value x < 10)
digit_byte x e = let r = digit_range x e in rw e (omega arith, omega arith)

-- one more digit, x, behind those of a number above 0
one_more : (v d x : ℕ) → 1 ≤ v → d < 10 → 0x30 + d ≡ x → digits (v * 10 + d) ≡ digits v ++ x ∷ []
one_more v d x h l e =
    let over : (v * 10 + d) / 10 ≡ v = omega arith in
    let left : 0x30 + (v * 10 + d) % 10 ≡ x = omega arith in
    digits_large (v * 10 + d) (omega arith) ∙ rw (over, left)

-- and several
digits_behind : (v : ℕ) (xs : List ℕ) → 1 ≤ v → all_digits xs ≡ true → digits (decimal_from v xs) ≡ digits v ++ xs
unfolding decimal_from all_digits
digits_behind v [] h a = sym (append-nil (digits v))
digits_behind v (x ∷ xs) h a =
    let t = and_split (is_digit x) (all_digits xs) a in
    let d = digit_byte x t.0 in
    digits_behind (v * 10 + digit_value x) xs (omega arith) t.1
    ∙ ap (λ (ds : List ℕ). ds ++ xs) (one_more v (digit_value x) x h d.1 d.0)
    ∙ append_assoc (digits v) (x ∷ []) xs

-- a digit by itself, as reading begins with it
digits_single : (x : ℕ) {d : ℕ} → d < 10 → 0x30 + d ≡ x → digits (0 + d) ≡ x ∷ []
digits_single x {d} l e = rw (zero-add d) (digits_small d l ∙ rw e)

-- digits without a leading zero are those of the number that they write
pub digits_back : (w : List ℕ) → all_digits w ≡ true → 1 ≤ length w → (get_or w 0 0 ≡ 0x30 → length w ≡ 1) → digits (decimal_value w) ≡ w
unfolding decimal_from all_digits
digits_back [] a h z = absurd (omega arith)
digits_back (x ∷ []) a h z =
    let d = digit_byte x (and_split (is_digit x) true a).0 in
    digits_single x d.1 d.0
digits_back (x ∷ y ∷ ys) a h z =
    let t = and_split (is_digit x) (all_digits (y ∷ ys)) a in
    let d = digit_byte x t.0 in
    let other : x ≡ 0x30 → ⊥ = λ e. omega (arith, z e) in
    digits_behind (0 + digit_value x) (y ∷ ys) (omega (arith, other)) t.1
    ∙ ap (λ (ds : List ℕ). ds ++ y ∷ ys) (digits_single x d.1 d.0)

-- digits behind v: v is what stands before them, and they are the last ones
pub value_over : (v : ℕ) (xs : List ℕ) → all_digits xs ≡ true → decimal_from v xs / 10 ^ length xs ≡ v
unfolding decimal_from all_digits
value_over v [] a = div-one v
value_over v (x ∷ xs) a =
    let t = and_split (is_digit x) (all_digits xs) a in
    let d = digit_byte x t.0 in
    let n = decimal_from (v * 10 + digit_value x) xs in
    rw (pow-suc 10 (length xs), ← div-div-eq-div-mul n (10 ^ length xs) 10, value_over (v * 10 + digit_value x) xs t.1) (omega arith)

-- the first of the last k + 1 digits
last_first : (k m : ℕ) → last_digits (suc k) m ≡ (0x30 + m / 10 ^ k % 10) ∷ last_digits k m
unfolding last_digits
last_first zero m = rw (div-one m)
last_first (suc k) m = ap (λ (ds : List ℕ). ds ++ (0x30 + m % 10) ∷ []) (last_first k (m / 10)) ∙ rw (ten_over m k)

pub last_back : (v : ℕ) (xs : List ℕ) → all_digits xs ≡ true → last_digits (length xs) (decimal_from v xs) ≡ xs
unfolding decimal_from all_digits last_digits
last_back v [] a = refl
last_back v (x ∷ xs) a =
    let t = and_split (is_digit x) (all_digits xs) a in
    let d = digit_byte x t.0 in
    let n = v * 10 + digit_value x in
    let first : 0x30 + n % 10 ≡ x = omega arith in
    last_first (length xs) (decimal_from n xs) ∙ rw (value_over n xs t.1, first, last_back n xs t.1)
