-- 01, The setup line: its nine fields, how each is written, and what is turned down of a line by 1 to 9.
use Rattle.std.specs.Prelude.{ℕ, suc, ◌+◌, ◌*◌, ◌-◌, Bool, true, not, ◌&&◌, ◌||◌, cond, List, [], ◌∷◌, eqb, ltb, leb, length, get_or, Result, Ok, Err}
use Rattle.refusals.specs.Refusals.{Ruling, unless_refused}
use Rattle.refusals.specs.declared.Refusal.{Refusal}
use Rattle.refusals.specs.declared.Refusal.TheVariants.{LineLength, FieldCount, FieldForm}
use Rattle.setup.specs.Setup.{Rule, rule, first_of, setup_rules, zero_setup}
use Rattle.setup.specs.declared.Setup.{Setup}
use Rattle.setup_line.specs.declared.LineRead.{LineRead}

-- a byte put in front of the first of some fields
abbrev pub in_front : ℕ → List (List ℕ) → List (List ℕ)
in_front b [] = (b ∷ []) ∷ []
in_front b (f ∷ fs) = (b ∷ f) ∷ fs

-- the fields of a line, parted by commas: n commas make n + 1 fields, of which some may be empty
unfoldable pub fields_of : List ℕ → List (List ℕ)
fields_of [] = [] ∷ []
fields_of (b ∷ l) = cond (eqb b 0x2C) ([] ∷ fields_of l) (in_front b (fields_of l))

unfoldable pub field_at : List ℕ → ℕ → List ℕ
field_at line k = get_or (fields_of line) k []

-- the digits 0 to 9, and A to F
abbrev pub is_digit : ℕ → Bool
is_digit b = leb 0x30 b && leb b 0x39

abbrev pub is_hex_digit : ℕ → Bool
is_hex_digit b = is_digit b || (leb 0x41 b && leb b 0x46)

-- the value of a digit; 0 for any other byte, which is no digit
abbrev pub digit_value : ℕ → ℕ
digit_value b = cond (is_digit b) (b - 0x30) (cond (is_hex_digit b) (b - 0x37) 0)

unfoldable pub all_digits : List ℕ → Bool
all_digits [] = true
all_digits (b ∷ bs) = is_digit b && all_digits bs

-- 1 to 4 decimal digits without a leading zero, except `0` itself
unfoldable pub decimal_written : List ℕ → Bool
decimal_written f = leb 1 (length f) && leb (length f) 4 && all_digits f && (eqb (length f) 1 || not (eqb (get_or f 0 0) 0x30))

-- two digits 0-9 or A-F
unfoldable pub identifier_written : List ℕ → Bool
identifier_written f = eqb (length f) 2 && is_hex_digit (get_or f 0 0) && is_hex_digit (get_or f 1 0)

-- the number that digits write, begun at n
unfoldable pub decimal_from : ℕ → List ℕ → ℕ
decimal_from n [] = n
decimal_from n (b ∷ bs) = decimal_from (n * 10 + digit_value b) bs

abbrev pub decimal_value : List ℕ → ℕ
decimal_value f = decimal_from 0 f

unfoldable pub identifier_value : List ℕ → ℕ
identifier_value f = digit_value (get_or f 0 0) * 16 + digit_value (get_or f 1 0)

-- a number for each group, gyro, accelerometer and inclinometer, in the three fields from k on
abbrev pub three_written : List ℕ → ℕ → Bool
three_written line k = decimal_written (field_at line k) && decimal_written (field_at line (k + 1)) && decimal_written (field_at line (k + 2))

abbrev pub three_values : List ℕ → ℕ → List ℕ
three_values line k = decimal_value (field_at line k) ∷ decimal_value (field_at line (k + 1)) ∷ decimal_value (field_at line (k + 2)) ∷ []

-- every field of a line is written as it should be
unfoldable pub line_written : List ℕ → Bool
line_written line =
    decimal_written (field_at line 0) && identifier_written (field_at line 1) && decimal_written (field_at line 2) &&
    three_written line 3 &&
    three_written line 6

-- the values that a line writes: sample rate, identifier, termination, the units of the groups, then their shifts
unfoldable pub setup_written : List ℕ → Setup
setup_written line =
    record {
      rate = decimal_value (field_at line 0);
      identifier = identifier_value (field_at line 1);
      termination = decimal_value (field_at line 2);
      units = three_values line 3;
      shifts = three_values line 6;
    }

-- the rules for a line, those for the setup that it writes behind its own
unfoldable pub line_rules : List ℕ → List Rule
line_rules line =
    rule LineLength (eqb (length line) 0 || ltb 64 (length line)) ∷
    rule FieldCount (not (eqb (length (fields_of line)) 9)) ∷
    rule FieldForm (not (line_written line)) ∷
    setup_rules (setup_written line)

-- the setup that a line writes, or what refuses it
unfoldable pub accepted_setup : List ℕ → Result Setup Refusal
accepted_setup line = unless_refused (first_of (line_rules line)) (setup_written line)

-- a refused line gives back a setup of zeros
abbrev pub read_with : Ruling → Setup → LineRead
read_with (Ok accepted) s = record { answer = Ok tt; setup = s }
read_with (Err e) s = record { answer = Err e; setup = zero_setup }

unfoldable pub line_read : List ℕ → LineRead
line_read line = read_with (first_of (line_rules line)) (setup_written line)

-- 01, The text line: where the first line of bytes ends, at its 0x0A or with the bytes
unfoldable pub line_end : List ℕ → ℕ
line_end [] = 0
line_end (b ∷ s) = cond (eqb b 0x0A) 0 (suc (line_end s))
