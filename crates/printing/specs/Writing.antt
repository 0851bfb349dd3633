-- A helper of proofs, no rule of 02: the text of a value by its sign, whole part and fraction, as the functions that write it have them, and one that only 19 is left
-- to refuse.
use Rattle.std.specs.Prelude.{ℕ, ◌+◌, Bool, cond, List, ◌++◌, eqb, length, Result}
use Rattle.setup.specs.Setup.{first_of, buffer_by}
use Rattle.shown_line.specs.Decimal.{digits}
use Rattle.printed_value.specs.PrintedValue.{behind_whole, room_rules, printed_by}
use Rattle.printed_value.specs.Prints.{minus_text}
use Rattle.refusals.specs.declared.Refusal.{Refusal}

-- how many bytes stand behind the whole part
abbrev pub fraction_length : ℕ → ℕ
fraction_length places = cond (eqb places 0) 0 (places + 1)

-- of the fraction the last digits stand behind the point, as many as places says
unfoldable pub text_of : Bool → ℕ → ℕ → ℕ → List ℕ
text_of minus whole fraction places = minus_text minus ++ (digits whole ++ behind_whole places fraction)

unfoldable pub room_answer : List ℕ → List ℕ → Result ℕ Refusal
room_answer b text = printed_by (first_of (room_rules text (length b))) text

unfoldable pub room_buffer : List ℕ → List ℕ → List ℕ
room_buffer b text = buffer_by (first_of (room_rules text (length b))) text b
