-- The rehearsal line: what a person or a script writes for a datagram that is to be made. 02, 2.1 asks for rehearsals; the form is this project's own: the
-- first 25 fields are those of the text line, in its order, so that a line that was printed can be sent again; behind them may stand temperatures and AUX.
use Rattle.std.specs.Prelude.{ℕ, ◌+◌, ◌*◌, Bool, true, false, not, ◌&&◌, ◌||◌, cond, List, [], ◌∷◌, eqb, ltb, leb, ℤ, pos, negsuc, neg_ℤ, length, get_or, Result, Ok, Err}
use Rattle.std.specs.Int.Signed.{lt_z}
use Rattle.setup_line.specs.SetupLine.{fields_of, all_digits, decimal_value}
use Rattle.made_datagram.specs.declared.Values.{Values}
use Rattle.rehearsal.specs.declared.Fault.{Fault}
use Rattle.rehearsal.specs.declared.Fault.TheVariants.{TooLong, OtherCount, NoNumber}

-- ---- a field

-- decimal digits without a leading zero, except `0` itself
unfoldable pub digits_written : List ℕ → Bool
digits_written f = leb 1 (length f) && all_digits f && (eqb (length f) 1 || not (eqb (get_or f 0 0) 0x30))

-- a whole number as the text line prints it: `-` before negatives, no leading zeros
unfoldable pub number_written : List ℕ → Bool
number_written [] = false
number_written (b ∷ f) = cond (eqb b 0x2D) (digits_written f && not (eqb (get_or f 0 0) 0x30)) (digits_written (b ∷ f))

-- an empty field stands for 0
unfoldable pub field_written : List ℕ → Bool
field_written f = eqb (length f) 0 || number_written f

-- the number that is written, 0 for an empty field and one that isn't written so
unfoldable pub number_value : List ℕ → ℤ
number_value [] = pos 0
number_value (b ∷ f) =
    cond (number_written (b ∷ f)) (cond (eqb b 0x2D) (neg_ℤ (pos (decimal_value f))) (pos (decimal_value (b ∷ f)))) (pos 0)

-- the nearest number that 32 bits hold; 15 judges it as it would the number itself
unfoldable pub nearest : ℤ → ℤ
nearest z = cond (lt_z z (negsuc 2147483647)) (negsuc 2147483647) (cond (lt_z (pos 2147483647) z) (pos 2147483647) z)

-- the value of the field k, counted from 0; 0 where the line has fewer
unfoldable pub value_at : List ℕ → ℕ → ℤ
value_at line k = nearest (number_value (get_or (fields_of line) k []))

-- ---- the values of a line

-- the text line's: ordinal, counter, latency, missed; then for each group X, Y, Z, status, total X, Y, Z
abbrev pub group_place : ℕ → ℕ
group_place g = 4 + 7 * g

-- behind them for each group its temperatures X, Y, Z and their status, then AUX and its status
abbrev pub set_place : ℕ → ℕ
set_place g = 25 + 4 * g

-- X, Y, Z
abbrev pub axes_at : List ℕ → ℕ → List ℤ
axes_at line k = value_at line k ∷ value_at line (k + 1) ∷ value_at line (k + 2) ∷ []

unfoldable pub readings_in : List ℕ → List (List ℤ)
readings_in line = axes_at line (group_place 0) ∷ axes_at line (group_place 1) ∷ axes_at line (group_place 2) ∷ []

-- the status behind X, Y, Z
abbrev pub statuses_at : (ℕ → ℕ) → List ℕ → List ℤ
statuses_at place line = value_at line (place 0 + 3) ∷ value_at line (place 1 + 3) ∷ value_at line (place 2 + 3) ∷ []

unfoldable pub values_in : List ℕ → Values
values_in line =
    record {
      statuses = statuses_at group_place line;
      gyro_temperatures = axes_at line (set_place 0);
      accelerometer_temperatures = axes_at line (set_place 1);
      inclinometer_temperatures = axes_at line (set_place 2);
      temperature_statuses = statuses_at set_place line;
      aux = value_at line 37;
      aux_status = value_at line 38;
      counter = value_at line 1;
      latency = value_at line 2;
    }

-- ---- what is turned down; no number of the papers fits

-- all fields of a list, the first of them the k-th of the line, are written as they should be; the fourth, missed, may be `?` too
unfoldable pub all_written : ℕ → List (List ℕ) → Bool
all_written k [] = true
all_written k (f ∷ fs) = (field_written f || (eqb k 3 && eqb (length f) 1 && eqb (get_or f 0 0) 0x3F)) && all_written (k + 1) fs

-- the bytes of a line, without its 0x0A, at most
abbrev pub longest : ℕ
longest = 512

unfoldable pub rehearsal_of : List ℕ → Result (Unit {0}) Fault
rehearsal_of line =
    cond (ltb longest (length line)) (Err TooLong)
    (cond (not (eqb (length (fields_of line)) 25 || eqb (length (fields_of line)) 39)) (Err OtherCount)
    (cond (all_written 0 (fields_of line)) (Ok tt) (Err NoNumber)))
