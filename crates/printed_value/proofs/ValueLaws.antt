-- The text of a value: what it is by its sign and size, that it prints the number as 02, 2.6 says, that no other text does, and how long it is.
use Prim.Native.Nat.{ℕ, zero, suc, ◌+◌, ◌*◌, ◌/◌, ◌^◌, ◌≤◌, ◌<◌}
use mathlib.Core.Bool.{Bool, true, false, ◌&&◌, cond}
use mathlib.Core.List.{List, [], ◌∷◌, ◌++◌}
use mathlib.Core.Path.{◌≡◌, refl, sym, ap, ◌∙◌}
use native.Mathlib.Nat.{one-le-pow, zero-mul, suc-mul, mul_comm, div-le_of_le-mul}
use native.Mathlib.Omega.{arith}
use borrow.Author.Tests.{ltb-true, lt-ltb, le-ltb, ne_eqb}
use lib.Dec.{eqb, ltb, ltb→lt}
use lib.IntN.{ℤ, pos, negsuc, neg_ℤ, nat_abs, ◌-ℤ◌, ◌*ℤ◌}
use lib.ListN.{length, get_or, length-append}
use lib.Signed.{lt_z, lt_z_yes, ◌<ℤ◌}
use Rattle.integers.proofs.Booleans.{and_split}
use Rattle.integers.proofs.Parts.{pos_part, neg_part, parts_apart, nat_abs_parts, sub_parts, mul_pos_part, mul_neg_part}
use Rattle.setup_line.specs.SetupLine.{all_digits, decimal_from, decimal_value}
use Rattle.shown_line.specs.Decimal.{digits}
use Rattle.shown_line.proofs.Digits.{digits_small, digits_value, digits_all, digits_some, no_leading_zero, value_append, digits_at_most}
use Rattle.printed_value.specs.PrintedValue.{nearest_even, in_last_places, last_digits, behind_whole, placed_text, signed_text, value_text, longest_value}
use Rattle.printed_value.specs.Prints.{with_sign, minus_text, distance, Prints}
use Rattle.printed_value.proofs.Nearest.{apart, Nearest, nearest_is, nearest_only, nearest_at_most}
use Rattle.printed_value.proofs.LastDigits.{last_length, last_all, last_value, digits_back, value_over, last_back}

-- the number of last places that is printed, but for the sign, and whether `-` stands before a number of that size
abbrev pub printed_size : ℤ → ℕ → ℕ → ℕ
printed_size n shift places = nearest_even (nat_abs n * 10 ^ places) (2 ^ shift)

abbrev pub has_minus : ℤ → ℕ → Bool
has_minus n m = lt_z n (pos 0) && ltb 0 m

pub two_power : (shift : ℕ) → 0 < 2 ^ shift
two_power shift = one-le-pow shift 2 (omega arith)

-- ---- the sign

-- how n, the sign before a number of last places, and its size go together
pub data Signed : ℤ → Bool → ℕ → Type 0 where
  above : (n m : ℕ) → Signed (pos n) false m
  below_zero : (n : ℕ) → Signed (negsuc n) false 0
  below : (n m : ℕ) → Signed (negsuc n) true (suc m)

-- so for the sign of the rule
pub sign_of : (n : ℤ) (m : ℕ) → Signed n (has_minus n m) m
sign_of (pos n) m = rw (le-ltb n 0 (omega arith)) (above n m)
sign_of (negsuc n) zero = below_zero n
sign_of (negsuc n) (suc m) = rw (lt-ltb 0 (suc m) (omega arith)) (below n m)

-- `-` exactly if n is below 0 and the size isn't 0
pub minus_exactly : {n : ℤ} {minus : Bool} {m : ℕ} → Signed n minus m → (minus ≡ true → n <ℤ pos 0) × (n <ℤ pos 0 → 0 < m → minus ≡ true)
minus_exactly (above n m) =
    ((λ e. let z : ◌≡◌ {A = ℕ} 0 1 = cc in absurd (omega arith)), λ l h. absurd (omega (arith, ltb→lt n 0 l.lt)))
minus_exactly (below_zero n) = ((λ e. lt_z_yes tt), λ l h. absurd (omega arith))
minus_exactly (below n m) = ((λ e. lt_z_yes tt), λ l h. refl)

-- ---- how far a number of last places is from the value

difference_size : (x y : ℤ) → nat_abs (x -ℤ y) ≡ apart (pos_part x + neg_part y) (pos_part y + neg_part x)
difference_size x y = omega (arith, nat_abs_parts (x -ℤ y), parts_apart (x -ℤ y), sub_parts x y)

module _ (shift places : ℕ) where
  abbrev scaled_parts : ℤ → ℤ → ℕ
  scaled_parts n q =
      apart (pos_part q * 2 ^ shift + neg_part n * 10 ^ places) (pos_part n * 10 ^ places + neg_part q * 2 ^ shift)

  distance_parts : (n q : ℤ) → distance n shift places q ≡ scaled_parts n q
  distance_parts n q =
      let x = q *ℤ pos (2 ^ shift) in
      let y = n *ℤ pos (10 ^ places) in
      omega (
        arith,
        difference_size x y,
        mul_pos_part q (2 ^ shift),
        mul_neg_part q (2 ^ shift),
        mul_pos_part n (10 ^ places),
        mul_neg_part n (10 ^ places),
      )

  pub distance_sizes :
      {n : ℤ} {minus : Bool} {m : ℕ} → Signed n minus m
      → distance n shift places (with_sign minus m) ≡ apart (m * 2 ^ shift) (nat_abs n * 10 ^ places)
  distance_sizes (above n m) = omega (arith, distance_parts (pos n) (pos m), zero-mul (10 ^ places), zero-mul (2 ^ shift))
  distance_sizes (below_zero n) = omega (arith, distance_parts (negsuc n) (pos 0), zero-mul (10 ^ places), zero-mul (2 ^ shift))
  distance_sizes (below n m) = omega (arith, distance_parts (negsuc n) (negsuc m), zero-mul (10 ^ places), zero-mul (2 ^ shift))

  -- a number with the other sign is more than half a last place off
  signed_by_near :
      (n : ℤ) (minus : Bool) (m : ℕ) → (minus ≡ true → 0 < m) → distance n shift places (with_sign minus m) * 2 ≤ 2 ^ shift → Signed n minus m
  signed_by_near (pos n) false m z h = above n m
  signed_by_near (pos n) true zero z h = absurd (omega (arith, z refl))
  signed_by_near (pos n) true (suc m) z h =
      absurd (omega (arith, distance_parts (pos n) (negsuc m), suc-mul m (2 ^ shift), zero-mul (10 ^ places), zero-mul (2 ^ shift), two_power shift))
  signed_by_near (negsuc n) false zero z h = below_zero n
  signed_by_near (negsuc n) false (suc m) z h =
      absurd (omega (arith, distance_parts (negsuc n) (pos (suc m)), suc-mul m (2 ^ shift), zero-mul (10 ^ places), zero-mul (2 ^ shift), two_power shift))
  signed_by_near (negsuc n) true zero z h = absurd (omega (arith, z refl))
  signed_by_near (negsuc n) true (suc m) z h = below n m

-- ---- the text, by the sign and the size

module _ (shift places : ℕ) where
  pub text_by_sign :
      {n : ℤ} {minus : Bool} {m : ℕ} → Signed n minus m → printed_size n shift places ≡ m
      → value_text n shift places ≡ minus_text minus ++ placed_text places m
  unfolding value_text in_last_places signed_text
  text_by_sign (above n m) e = ap (placed_text places) e
  text_by_sign (below_zero n) e = ap (λ (m : ℕ). signed_text places (neg_ℤ (pos m))) e
  text_by_sign (below n m) e = ap (λ (m : ℕ). signed_text places (neg_ℤ (pos m))) e

-- ---- it prints the number

placed_value : (places m : ℕ) → decimal_value (digits (m / 10 ^ places) ++ last_digits places m) ≡ m
placed_value places m =
    value_append 0 (digits (m / 10 ^ places)) (last_digits places m)
    ∙ ap (λ (v : ℕ). decimal_from v (last_digits places m)) (digits_value (m / 10 ^ places)) ∙ last_value places m

pub behind_by_lem : (places m : ℕ) → behind_whole places m ≡ cond (eqb places 0) [] (0x2E ∷ last_digits places m)
unfolding behind_whole
behind_by_lem zero m = refl
behind_by_lem (suc places) m = rw (ne_eqb (suc places) 0 (λ e. omega arith))

single_zero : (n : ℕ) → get_or (digits n) 0 0 ≡ 0x30 → length (digits n) ≡ 1
single_zero zero e = ap length (digits_small 0 (omega arith))
single_zero (suc n) e = absurd (omega (arith, no_leading_zero (suc n) (omega arith)))

-- a whole part and digits behind it are the text of the number that they write
module _ (whole fraction : List ℕ) (a : all_digits whole ≡ true) (b : all_digits fraction ≡ true) (h : 1 ≤ length whole)
    (z : get_or whole 0 0 ≡ 0x30 → length whole ≡ 1) where
  placed_back : placed_text (length fraction) (decimal_value (whole ++ fraction)) ≡ whole ++ cond (eqb (length fraction) 0) [] (0x2E ∷ fraction)
  unfolding placed_text
  placed_back =
      let v = decimal_from (decimal_value whole) fraction in
      ap (placed_text (length fraction)) (value_append 0 whole fraction)
      ∙ ap (λ (ds : List ℕ). ds ++ behind_whole (length fraction) v) (ap digits (value_over (decimal_value whole) fraction b) ∙ digits_back whole a h z)
      ∙ ap (λ (t : List ℕ). whole ++ t) (behind_by_lem (length fraction) v ∙ ap (λ (f : List ℕ). cond (eqb (length fraction) 0) [] (0x2E ∷ f)) (last_back (decimal_value whole) fraction b))

module _ (n : ℤ) (shift places : ℕ) where
  abbrev m : ℕ
  m = printed_size n shift places

  nearest : Nearest (nat_abs n * 10 ^ places) (2 ^ shift) m
  nearest = nearest_is (nat_abs n * 10 ^ places) (2 ^ shift) (two_power shift)

  far : distance n shift places (with_sign (has_minus n m) m) ≡ apart (m * 2 ^ shift) (nat_abs n * 10 ^ places)
  far = distance_sizes shift places (sign_of n m)

  pub prints : Prints n shift places (value_text n shift places)
  unfolding placed_text
  prints =
      record {
        minus = has_minus n m;
        whole = digits (m / 10 ^ places);
        fraction = last_digits places m;
        made_up =
            text_by_sign shift places (sign_of n m) refl
            ∙ ap (λ (t : List ℕ). minus_text (has_minus n m) ++ (digits (m / 10 ^ places) ++ t)) (behind_by_lem places m);
        whole_digits = digits_all (m / 10 ^ places);
        fraction_digits = last_all places m;
        some_digit = digits_some (m / 10 ^ places);
        that_many = last_length places m;
        no_leading_zero = single_zero (m / 10 ^ places);
        printed = m;
        read_back = placed_value places m;
        minus_nonzero = λ e. ltb-true 0 m (and_split (lt_z n (pos 0)) (ltb 0 m) e).1;
        near = rw far nearest.near;
        even = λ e. nearest.even (sym (ap (λ (d : ℕ). d * 2) far) ∙ e);
      }

  module _ {t : List ℕ} (p : Prints n shift places t) where
    signed : Signed n p.minus p.printed
    signed = signed_by_near shift places n p.minus p.printed p.minus_nonzero p.near

    -- `-` exactly if n is below 0 and a nonzero digit is printed
    pub prints_sign : (p.minus ≡ true → n <ℤ pos 0) × (n <ℤ pos 0 → 0 < p.printed → p.minus ≡ true)
    prints_sign = minus_exactly signed

    -- the printed number is the nearest one
    prints_nearest : m ≡ p.printed
    prints_nearest =
        let d = distance_sizes shift places signed in
        nearest_only (nat_abs n * 10 ^ places) (2 ^ shift) (two_power shift) nearest
        record { near = rw d at p.near; even = λ z. p.even (ap (λ (k : ℕ). k * 2) d ∙ z) }

    back : placed_text places p.printed ≡ p.whole ++ cond (eqb places 0) [] (0x2E ∷ p.fraction)
    back =
        rw (← p.that_many, ← p.read_back)
        (placed_back p.whole p.fraction p.whole_digits p.fraction_digits p.some_digit p.no_leading_zero)

    pub prints_only : t ≡ value_text n shift places
    prints_only =
        p.made_up ∙ ap (λ (w : List ℕ). minus_text p.minus ++ w) (sym back)
        ∙ sym (text_by_sign shift places signed prints_nearest)

-- ---- how long it is

pub behind_length : (places m : ℕ) → length (behind_whole places m) ≡ cond (eqb places 0) 0 (places + 1)
unfolding behind_whole
behind_length zero m = refl
behind_length (suc places) m = rw (ne_eqb (suc places) 0 (λ e. omega arith)) (omega (arith, last_length (suc places) m))

pub behind_at_most : (places m : ℕ) → length (behind_whole places m) ≤ places + 1
unfolding behind_whole
behind_at_most zero m = omega arith
behind_at_most (suc places) m = omega (arith, last_length (suc places) m)

pub minus_at_most : (minus : Bool) → length (minus_text minus) ≤ 1
minus_at_most true = omega arith
minus_at_most false = omega arith

module _ (n : ℤ) (shift places : ℕ) where
  -- the whole part is at most the number, so it has at most 16 digits
  pub value_longest : places ≤ 9 → nat_abs n ≤ 2 ^ 53 → length (value_text n shift places) ≤ longest_value
  unfolding placed_text
  value_longest p h =
      let m = printed_size n shift places in
      let w = m / 10 ^ places in
      let l : m ≤ 10 ^ places * nat_abs n =
      omega (arith, nearest_at_most (nat_abs n * 10 ^ places) (2 ^ shift) (two_power shift), mul_comm (nat_abs n) (10 ^ places))
      in
      let k : w ≤ nat_abs n = div-le_of_le-mul (10 ^ places) l in
      omega (
        arith,
        ap length (text_by_sign shift places (sign_of n m) refl),
        length-append (minus_text (has_minus n m)) (digits w ++ behind_whole places m),
        length-append (digits w) (behind_whole places m),
        minus_at_most (has_minus n m),
        digits_at_most 15 w (omega arith),
        behind_at_most places m,
      )
