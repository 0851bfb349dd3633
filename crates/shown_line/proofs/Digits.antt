-- What the decimal text of a number is: the text of a single digit, and that of a longer number from a shorter one; and what follows of every
-- text: it writes the number, has digits only and no leading zero, and is so long at most.
use mathlib.Core.Path.{◌≡◌, refl, sym, ap, ◌∙◌, subst}
use mathlib.Core.Bool.{true}
use mathlib.Core.List.{List, [], ◌∷◌, ◌++◌, append_assoc}
use mathlib.Core.WellFounded.{Acc, Acc-prop, recursion}
use Prim.Native.Nat.{ℕ, zero, suc, ◌+◌, ◌*◌, ◌/◌, ◌%◌, ◌^◌, ◌≤◌, ◌<◌}
use native.Mathlib.Decide.{dec_lt}
use native.Mathlib.Nat.{one-le-pow, pow-suc, zero-add}
use native.Mathlib.Omega.{arith}
use borrow.Author.Tests.{le-leb}
use lib.IntN.{ℤ, pos, negsuc, nat_abs}
use lib.ListN.{length, length-append, get_or, get_or-append}
use lib.WfN.{lt-wf_rel}
use Rattle.integers.proofs.Booleans.{and_split, and_true}
use Rattle.integers.proofs.Parts.{pos_part, neg_part}
use Rattle.setup_line.specs.SetupLine.{is_digit, digit_value, all_digits, decimal_from}
use Rattle.shown_line.specs.Decimal.{digits_by, digits_from, digits, decimal, last_three}

-- ---- the two equations

single_by : (n : ℕ) (d : Dec (n < 10)) (shorter : (m : ℕ) → m < n → List ℕ) → n < 10 → digits_by n d shorter ≡ (0x30 + n) ∷ []
unfolding digits_by
single_by n (yes l) shorter h = refl
single_by n (no g) shorter h = absurd (g h)

longer_by : (n : ℕ) (d : Dec (n < 10)) (shorter : (m : ℕ) → m < n → List ℕ) → ((m : ℕ) (l : m < n) → shorter m l ≡ digits m)
    → 10 ≤ n → digits_by n d shorter ≡ digits (n / 10) ++ (0x30 + n % 10) ∷ []
unfolding digits_by
longer_by n (yes l) shorter e h = let z : ⊥ = omega arith in absurd z
longer_by n (no g) shorter e h = ap (λ (ds : List ℕ). ds ++ (0x30 + n % 10) ∷ []) (e (n / 10) _)

-- whichever way n is reached
same_from : (n : ℕ) (a : Acc ◌<◌ n) → digits_from n a ≡ digits n
unfolding digits
same_from n a = ap (digits_from n) (Acc-prop a (lt-wf_rel.wf.apply n))

longer_from : (n : ℕ) (a : Acc ◌<◌ n) → 10 ≤ n → digits_from n a ≡ digits (n / 10) ++ (0x30 + n % 10) ∷ []
unfolding digits_from
longer_from n (Acc.intro m below) h = longer_by m (dec_lt m 10) (λ k l. digits_from k (below k l)) (λ k l. same_from k (below k l)) h

pub digits_small : (n : ℕ) → n < 10 → digits n ≡ (0x30 + n) ∷ []
unfolding digits digits_from
digits_small n h = single_by n (dec_lt n 10) _ h

pub digits_large : (n : ℕ) → 10 ≤ n → digits n ≡ digits (n / 10) ++ (0x30 + n % 10) ∷ []
digits_large n h = sym (same_from n (lt-wf_rel.wf.apply n)) ∙ longer_from n (lt-wf_rel.wf.apply n) h

-- what holds of every single digit, and of n by what holds of n / 10, holds of every number
module _ (P : ℕ → List ℕ → Type 0) (one : (n : ℕ) → n < 10 → P n ((0x30 + n) ∷ []))
    (more : (n : ℕ) (ds : List ℕ) → 10 ≤ n → P (n / 10) ds → P n (ds ++ (0x30 + n % 10) ∷ [])) where
  by_size : (n : ℕ) → Dec (n < 10) → ((m : ℕ) → m < n → P m (digits m)) → P n (digits n)
  by_size n (yes l) below = subst (P n) (sym (digits_small n l)) (one n l)
  by_size n (no g) below =
      let l : 10 ≤ n = omega arith in
      subst (P n) (sym (digits_large n l)) (more n (digits (n / 10)) l (below (n / 10) (omega arith)))

  pub digits_ind : (n : ℕ) → P n (digits n)
  digits_ind n = recursion lt-wf_rel.wf {C = λ (m : ℕ). P m (digits m)} n (λ m below. by_size m (dec_lt m 10) below)

-- ---- what every text is

pub digit_is : (d : ℕ) → d < 10 → is_digit (0x30 + d) ≡ true
digit_is d h = rw (le-leb 0x30 (0x30 + d) (omega arith), le-leb (0x30 + d) 0x39 (omega arith))

pub digit_value_lem : (d : ℕ) → d < 10 → digit_value (0x30 + d) ≡ d
digit_value_lem d h = rw (digit_is d h) (omega arith)

pub value_append : (n : ℕ) (xs ys : List ℕ) → decimal_from n (xs ++ ys) ≡ decimal_from (decimal_from n xs) ys
unfolding decimal_from
value_append n [] ys = refl
value_append n (x ∷ xs) ys = value_append (n * 10 + digit_value x) xs ys

-- it writes the number, read as a field of the setup line is
pub digits_value : (n : ℕ) → decimal_from 0 (digits n) ≡ n
unfolding decimal_from
digits_value =
    digits_ind (λ n ds. decimal_from 0 ds ≡ n) (λ n h. zero-add (digit_value (0x30 + n)) ∙ digit_value_lem n h)
    (λ n ds h e. value_append 0 ds ((0x30 + n % 10) ∷ []) ∙ rw (e, digit_value_lem (n % 10) (omega arith)) (omega arith))

pub all_append : (xs : List ℕ) (y : ℕ) → all_digits xs ≡ true → is_digit y ≡ true → all_digits (xs ++ y ∷ []) ≡ true
unfolding all_digits
all_append [] y e f = rw f
all_append (x ∷ xs) y e f = let t = and_split (is_digit x) (all_digits xs) e in and_true t.0 (all_append xs y t.1 f)

-- it has digits only
pub digits_all : (n : ℕ) → all_digits (digits n) ≡ true
unfolding all_digits
digits_all =
    digits_ind (λ n ds. all_digits ds ≡ true) (λ n h. rw (digit_is n h))
    (λ n ds h e. all_append ds (0x30 + n % 10) e (digit_is (n % 10) (omega arith)))

abbrev Leads : ℕ → List ℕ → Type 0
Leads n ds = (1 ≤ length ds) × (1 ≤ n → 0x31 ≤ get_or ds 0 0)

leads : (n : ℕ) → Leads n (digits n)
leads =
    digits_ind Leads (λ n h. (omega arith, λ k. omega arith))
    (λ n ds h e. (omega (arith, length-append ds ((0x30 + n % 10) ∷ [])), λ k. rw (get_or-append ds ((0x30 + n % 10) ∷ []) 0 0 e.0) (e.1 (omega arith))))

-- it has a digit
pub digits_some : (n : ℕ) → 1 ≤ length (digits n)
digits_some n = (leads n).0

-- only `0` itself begins with a zero
pub no_leading_zero : (n : ℕ) → 1 ≤ n → 0x31 ≤ get_or (digits n) 0 0
no_leading_zero n h = (leads n).1 h

-- a number below 10 ^ k has at most k digits
at_most_by : (k n : ℕ) → n < 10 ^ suc (suc k) → ((m : ℕ) → m < 10 ^ suc k → length (digits m) ≤ suc k) → Dec (n < 10) → length (digits n) ≤ suc (suc k)
at_most_by k n h f (yes l) = omega (arith, ap length (digits_small n l))
at_most_by k n h f (no g) =
    let l : 10 ≤ n = omega arith in
    let b : n / 10 < 10 ^ suc k = omega (arith, pow-suc 10 (suc k)) in
    omega (arith, ap length (digits_large n l), length-append (digits (n / 10)) ((0x30 + n % 10) ∷ []), f (n / 10) b)

pub digits_at_most : (k n : ℕ) → n < 10 ^ suc k → length (digits n) ≤ suc k
digits_at_most zero n h = omega (arith, ap length (digits_small n h))
digits_at_most (suc k) n h = at_most_by k n h (digits_at_most k) (dec_lt n 10)

-- and one of at least 10 ^ k has more than k
pub digits_at_least : (k n : ℕ) → 10 ^ k ≤ n → suc k ≤ length (digits n)
digits_at_least zero n h = digits_some n
digits_at_least (suc k) n h =
    let l : 10 ≤ n = omega (arith, pow-suc 10 k, one-le-pow k 10 (omega arith)) in
    let b : 10 ^ k ≤ n / 10 = omega (arith, pow-suc 10 k) in
    omega (arith, ap length (digits_large n l), length-append (digits (n / 10)) ((0x30 + n % 10) ∷ []), digits_at_least k (n / 10) b)

-- ---- three digits at a time

pub digits_two : (n : ℕ) → 10 ≤ n → n < 100 → digits n ≡ (0x30 + n / 10) ∷ (0x30 + n % 10) ∷ []
digits_two n l h = digits_large n l ∙ ap (λ (ds : List ℕ). ds ++ (0x30 + n % 10) ∷ []) (digits_small (n / 10) (omega arith))

pub digits_three : (n : ℕ) → 100 ≤ n → n < 1000 → digits n ≡ last_three n
digits_three n l h =
    let t : n / 10 / 10 ≡ n / 100 % 10 = omega arith in
    digits_large n (omega arith) ∙ ap (λ (ds : List ℕ). ds ++ (0x30 + n % 10) ∷ []) (digits_two (n / 10) (omega arith) (omega arith))
    ∙ ap (λ (d : ℕ). (0x30 + d) ∷ (0x30 + n / 10 % 10) ∷ (0x30 + n % 10) ∷ []) t

pub digits_more : (n : ℕ) → 1000 ≤ n → digits n ≡ digits (n / 1000) ++ last_three (n % 1000)
digits_more n h =
    let m = n / 10 in
    let rest : n / 10 / 10 / 10 ≡ n / 1000 = omega arith in
    let hundreds : n / 10 / 10 % 10 ≡ n % 1000 / 100 % 10 = omega arith in
    let tens : n / 10 % 10 ≡ n % 1000 / 10 % 10 = omega arith in
    let ones : n % 10 ≡ n % 1000 % 10 = omega arith in
    digits_large n (omega arith)
    ∙ rw (digits_large m (omega arith), digits_large (m / 10) (omega arith)) (simp append_assoc (rw (rest, hundreds, tens, ones)))

-- ---- by the sign

pub decimal_negative : (z : ℤ) → pos_part z < neg_part z → decimal z ≡ 0x2D ∷ digits (nat_abs z)
unfolding decimal
decimal_negative (pos n) h = let z : ⊥ = omega arith in absurd z
decimal_negative (negsuc n) h = refl

pub decimal_positive : (z : ℤ) → neg_part z ≡ 0 → decimal z ≡ digits (nat_abs z)
unfolding decimal
decimal_positive (pos n) h = refl
decimal_positive (negsuc n) h = let z : ⊥ = omega arith in absurd z
