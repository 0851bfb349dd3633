-- 02, 2.6: texts worked out by hand. A byte 0x30 is `0`, 0x2E is `.`, 0x2D is `-`.
use Rattle.std.specs.Prelude.{[], ◌∷◌, ◌≡◌, pos, negsuc, length}
use Rattle.printed_value.specs.PrintedValue.{value_text, longest_value}

pub record WorkedValues : Type 0 where
  -- halves with 0 places: 0.5 and 2.5 go down to the even number, 1.5 up to it; below 0 the same in size
  pub half : value_text (pos 1) 1 0 ≡ 0x30 ∷ []
  pub one_and_a_half : value_text (pos 3) 1 0 ≡ 0x32 ∷ []
  pub two_and_a_half : value_text (pos 5) 1 0 ≡ 0x32 ∷ []
  pub minus_half : value_text (negsuc 0) 1 0 ≡ 0x30 ∷ []
  pub minus_one_and_a_half : value_text (negsuc 2) 1 0 ≡ 0x2D ∷ 0x32 ∷ []
  -- and with 1 place: 0.25 is 0.2, 0.75 is 0.8
  pub quarter : value_text (pos 1) 2 1 ≡ 0x30 ∷ 0x2E ∷ 0x32 ∷ []
  pub three_quarters : value_text (pos 3) 2 1 ≡ 0x30 ∷ 0x2E ∷ 0x38 ∷ []
  -- 4095 / 4096 with 3 places is 1.000, and 9 more is 10.000
  pub carried : value_text (pos 4095) 12 3 ≡ 0x31 ∷ 0x2E ∷ 0x30 ∷ 0x30 ∷ 0x30 ∷ []
  pub one_digit_more : value_text (pos 40959) 12 3 ≡ 0x31 ∷ 0x30 ∷ 0x2E ∷ 0x30 ∷ 0x30 ∷ 0x30 ∷ []
  -- a total of 209716 output steps and a reading of -8283750 at shift 21 are 0.1000004 and -3.9499998 degrees
  pub total : value_text (pos 209716) 21 7 ≡ 0x30 ∷ 0x2E ∷ 0x31 ∷ 0x30 ∷ 0x30 ∷ 0x30 ∷ 0x30 ∷ 0x30 ∷ 0x34 ∷ []
  pub reading : value_text (negsuc 8283749) 21 7 ≡ 0x2D ∷ 0x33 ∷ 0x2E ∷ 0x39 ∷ 0x34 ∷ 0x39 ∷ 0x39 ∷ 0x39 ∷ 0x39 ∷ 0x38 ∷ []
  -- -1 / 2^31 with 9 places is 0.000000000, -2 / 2^31 is -0.000000001
  pub unsigned_zero : value_text (negsuc 0) 31 9 ≡ 0x30 ∷ 0x2E ∷ 0x30 ∷ 0x30 ∷ 0x30 ∷ 0x30 ∷ 0x30 ∷ 0x30 ∷ 0x30 ∷ 0x30 ∷ 0x30 ∷ []
  pub last_place : value_text (negsuc 1) 31 9 ≡ 0x2D ∷ 0x30 ∷ 0x2E ∷ 0x30 ∷ 0x30 ∷ 0x30 ∷ 0x30 ∷ 0x30 ∷ 0x30 ∷ 0x30 ∷ 0x30 ∷ 0x31 ∷ []
  -- -2^53 at shift 0 with 9 places is as long as any
  pub longest : length (value_text (negsuc 9007199254740991) 0 9) ≡ longest_value
