-- 02, 2.6 in its own words: what a text is that prints n over 2^shift with so many places. It says nothing of how the text is found, and holds of one text only
-- for each n, shift and places (`ValueLaws.prints_only`), the one that is printed (`ValueLaws.prints`).
use Rattle.std.specs.Prelude.{ℕ, ◌*◌, ◌%◌, ◌^◌, ◌≤◌, ◌<◌, Bool, true, cond, List, [], ◌∷◌, ◌++◌, ◌≡◌, eqb, ℤ, pos, neg_ℤ, nat_abs, ◌-ℤ◌, ◌*ℤ◌, length, get_or}
use Rattle.setup_line.specs.SetupLine.{all_digits, decimal_value}

-- the number with that size, below 0 if `-` stands before it
abbrev pub with_sign : Bool → ℕ → ℤ
with_sign minus m = cond minus (neg_ℤ (pos m)) (pos m)

-- `-`, or nothing
abbrev pub minus_text : Bool → List ℕ
minus_text minus = cond minus (0x2D ∷ []) []

-- how far q × 10^-places is from n / 2^shift, in units of 10^-places / 2^shift, of which a last place has 2^shift
abbrev pub distance : ℤ → ℕ → ℕ → ℤ → ℕ
distance n shift places q = nat_abs (q *ℤ pos (2 ^ shift) -ℤ (n *ℤ pos (10 ^ places)))

pub record Prints (n : ℤ) (shift places : ℕ) (text : List ℕ) : Type 0 where
  -- whether `-` is printed, the whole part, and the digits behind the point
  pub minus : Bool
  pub whole : List ℕ
  pub fraction : List ℕ
  -- which make up the text; no point if places is 0
  pub made_up : text ≡ minus_text minus ++ (whole ++ cond (eqb places 0) [] (0x2E ∷ fraction))
  -- digits only, at least one before the point, and that many behind it
  pub whole_digits : all_digits whole ≡ true
  pub fraction_digits : all_digits fraction ≡ true
  pub some_digit : 1 ≤ length whole
  pub that_many : length fraction ≡ places
  -- no leading zeros except `0` itself
  pub no_leading_zero : get_or whole 0 0 ≡ 0x30 → length whole ≡ 1
  -- the digits read as one number are the printed number counted in its last place, but for the sign
  pub printed : ℕ
  pub read_back : decimal_value (whole ++ fraction) ≡ printed
  -- `-` only if a nonzero digit is printed
  pub minus_nonzero : minus ≡ true → 0 < printed
  -- the printed number is at most half a last place from the exact value
  pub near : distance n shift places (with_sign minus printed) * 2 ≤ 2 ^ shift
  -- halves to the even last digit, which an even number has
  pub even : distance n shift places (with_sign minus printed) * 2 ≡ 2 ^ shift → printed % 2 ≡ 0
