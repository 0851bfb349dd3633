-- A decimal as the text line prints it is a whole number as the rehearsal line reads it, and the same one.
use Prim.Native.Nat.{ℕ, zero, suc, ◌≤◌, ◌<◌}
use native.Mathlib.Omega.{arith}
use mathlib.Core.Bool.{Bool, true, false, not, ◌||◌, cond}
use mathlib.Core.List.{List, [], ◌∷◌}
use mathlib.Core.Path.{◌≡◌, refl, ap, ◌∙◌}
use lib.Dec.{eqb}
use lib.IntN.{ℤ, pos, negsuc, neg_ℤ}
use lib.ListN.{length, get_or}
use borrow.Author.Tests.{le-leb, ne_eqb}
use Rattle.integers.proofs.Booleans.{and_split, and_true, or_true}
use Rattle.integers.proofs.Parts.{pos_part, neg_part}
use Rattle.setup_line.specs.SetupLine.{is_digit, all_digits}
use Rattle.setup_line.proofs.Digits.{digit_range}
use Rattle.shown_line.specs.Decimal.{digits, decimal}
use Rattle.shown_line.specs.ShownLine.{shown_if}
use Rattle.shown_line.proofs.Digits.{digits_some, digits_small, digits_value, digits_all, no_leading_zero}
use Rattle.rehearsal.specs.RehearsalLine.{digits_written, number_written, field_written, number_value, nearest}
use Rattle.rehearsal.proofs.Nearest.{nearest_held}
use Rattle.rehearsal.proofs.Numbers.{number_minus, number_plain, value_minus, value_plain}

-- ---- digits

-- the first is no `-`
first_digit : (n : ℕ) → get_or (digits n) 0 0 ≡ 0x2D → ⊥
unfolding all_digits
first_digit n = by (digits n) (digits_some n) (digits_all n)
  where
    by : (ds : List ℕ) → 0 < length ds → all_digits ds ≡ true → get_or ds 0 0 ≡ 0x2D → ⊥
    by [] h a e = omega arith
    by (d ∷ ds) h a e = let r = digit_range d (and_split (is_digit d) (all_digits ds) a).0 in omega arith

-- only `0` itself begins with a zero
alone_or_led : (n : ℕ) → (eqb (length (digits n)) 1 || not (eqb (get_or (digits n) 0 0) 0x30)) ≡ true
alone_or_led zero = rw (digits_small 0 (omega arith))
alone_or_led (suc n) =
    or_true (eqb (length (digits (suc n))) 1)
    (ap not (ne_eqb (get_or (digits (suc n)) 0 0) 0x30 (λ e. omega (arith, no_leading_zero (suc n) (omega arith)))))

digits_written_lem : (n : ℕ) → digits_written (digits n) ≡ true
unfolding digits_written
digits_written_lem n = rw (le-leb 1 (length (digits n)) (digits_some n), digits_all n, alone_or_led n)

-- ---- decimals

positive_written : (n : ℕ) → number_written (digits n) ≡ true
positive_written n = number_plain (digits n) (digits_some n) (first_digit n) ∙ digits_written_lem n

negative_written : (n : ℕ) → number_written (0x2D ∷ digits (suc n)) ≡ true
negative_written n =
    let led : eqb (get_or (digits (suc n)) 0 0) 0x30 ≡ false =
    ne_eqb (get_or (digits (suc n)) 0 0) 0x30 (λ e. omega (arith, no_leading_zero (suc n) (omega arith))) in
    number_minus (0x2D ∷ digits (suc n)) (omega arith) refl ∙ and_true (digits_written_lem (suc n)) (ap not led)

decimal_written_lem : (z : ℤ) → number_written (decimal z) ≡ true
unfolding decimal
decimal_written_lem (pos n) = positive_written n
decimal_written_lem (negsuc n) = negative_written n

pub decimal_value_lem : (z : ℤ) → number_value (decimal z) ≡ z
unfolding decimal
decimal_value_lem (pos n) = value_plain (digits n) (positive_written n) (first_digit n) ∙ ap pos (digits_value n)
decimal_value_lem (negsuc n) =
    value_minus (0x2D ∷ digits (suc n)) (negative_written n) refl ∙ ap (λ (k : ℕ). neg_ℤ (pos k)) (digits_value (suc n))

-- ---- fields, which may be empty

pub shown_written : (t : Bool) (z : ℤ) → field_written (shown_if t (decimal z)) ≡ true
unfolding field_written
shown_written true z = or_true (eqb (length (decimal z)) 0) (decimal_written_lem z)
shown_written false z = refl

-- such a field says its number where it is shown, and else 0
pub shown_value : (t : Bool) (z : ℤ) → pos_part z ≤ 2147483647 → neg_part z ≤ 2147483648 → nearest (number_value (shown_if t (decimal z))) ≡ cond t z (pos 0)
unfolding number_value
shown_value true z p n = ap nearest (decimal_value_lem z) ∙ nearest_held z p n
shown_value false z p n = nearest_held (pos 0) (omega arith) (omega arith)
