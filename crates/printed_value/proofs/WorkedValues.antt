-- The worked texts, by computation but for the digits of the whole parts, which are found by reading them back.
use Prim.Native.Nat.{ℕ}
use mathlib.Core.List.{List, [], ◌∷◌}
use mathlib.Core.Path.{◌≡◌, refl}
use native.Mathlib.Omega.{arith}
use Rattle.setup_line.specs.SetupLine.{all_digits, decimal_from}
use Rattle.shown_line.specs.Decimal.{digits}
use Rattle.shown_line.proofs.Digits.{digits_small, digits_two}
use Rattle.printed_value.specs.PrintedValue.{nearest_even, in_last_places, last_digits, behind_whole, placed_text, signed_text, value_text}
use Rattle.printed_value.specs.WorkedValues.{WorkedValues}
use Rattle.printed_value.proofs.LastDigits.{digits_back}

-- 2^53
abbrev greatest : List ℕ
greatest = 0x39 ∷ 0x30 ∷ 0x30 ∷ 0x37 ∷ 0x31 ∷ 0x39 ∷ 0x39 ∷ 0x32 ∷ 0x35 ∷ 0x34 ∷ 0x37 ∷ 0x34 ∷ 0x30 ∷ 0x39 ∷ 0x39 ∷ 0x32 ∷ []

greatest_digits : digits 9007199254740992 ≡ greatest
unfolding all_digits decimal_from
greatest_digits = digits_back greatest refl (omega arith) (λ e. absurd (omega arith))

pub worked_values_lem : WorkedValues
unfolding value_text signed_text placed_text behind_whole last_digits in_last_places nearest_even
worked_values_lem =
    record {
      half = rw (digits_small 0 (omega arith));
      one_and_a_half = rw (digits_small 2 (omega arith));
      two_and_a_half = rw (digits_small 2 (omega arith));
      minus_half = rw (digits_small 0 (omega arith));
      minus_one_and_a_half = rw (digits_small 2 (omega arith));
      quarter = rw (digits_small 0 (omega arith));
      three_quarters = rw (digits_small 0 (omega arith));
      carried = rw (digits_small 1 (omega arith));
      one_digit_more = rw (digits_two 10 (omega arith) (omega arith));
      total = rw (digits_small 0 (omega arith));
      reading = rw (digits_small 3 (omega arith));
      unsigned_zero = rw (digits_small 0 (omega arith));
      last_place = rw (digits_small 0 (omega arith));
      longest = rw greatest_digits;
    }
