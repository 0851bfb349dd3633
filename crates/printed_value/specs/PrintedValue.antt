-- 02, 2.6: the text of a total or a reading over 2^shift, with so many places; and what is turned down: 17, places above 9 or shift above 31; then 18, a
-- number beyond 2^53 in size; then 19, a lent buffer shorter than the text.
use Rattle.std.specs.Prelude.{ℕ, zero, suc, ◌+◌, ◌*◌, ◌/◌, ◌%◌, ◌^◌, Bool, not, ◌&&◌, ◌||◌, cond, List, [], ◌∷◌, ◌++◌, eqb, ltb, ℤ, pos, negsuc, neg_ℤ, length, Result, Ok, Err}
use Rattle.std.proofs.Math.Option.{Option, none, some}
use Rattle.integers.specs.Ranges.{within}
use Rattle.setup.specs.Setup.{Rule, rule, first_of, buffer_by}
use Rattle.motion.specs.Totals.{greatest_total}
use Rattle.shown_line.specs.Decimal.{digits}
use Rattle.refusals.specs.Refusals.{number_of, Ruling, unless_refused}
use Rattle.refusals.specs.declared.Refusal.{Refusal}
use Rattle.refusals.specs.declared.Refusal.TheVariants.{PlacesOrShift, NumberTooGreat, ValueRoom}

-- ---- the printed number, counted in its last place

-- a / b, for a b above 0, rounded to the nearest whole number, a half to the even one: up if more than half of b is left, or just half behind an odd one
unfoldable pub nearest_even : ℕ → ℕ → ℕ
nearest_even a b = cond (ltb b (a % b * 2) || (eqb (a % b * 2) b && eqb (a / b % 2) 1)) (a / b + 1) (a / b)

-- n / 2^shift in units of 10^-places so rounded, which is the same for n and -n but for the sign
unfoldable pub in_last_places : ℤ → ℕ → ℕ → ℤ
in_last_places (pos n) shift places = pos (nearest_even (n * 10 ^ places) (2 ^ shift))
in_last_places (negsuc n) shift places = neg_ℤ (pos (nearest_even (suc n * 10 ^ places) (2 ^ shift)))

-- ---- the text

-- the last k digits of m, zeros included
unfoldable pub last_digits : ℕ → ℕ → List ℕ
last_digits zero m = []
last_digits (suc k) m = last_digits k (m / 10) ++ (0x30 + m % 10) ∷ []

-- unless places is 0, a `.` and that many digits
unfoldable pub behind_whole : ℕ → ℕ → List ℕ
behind_whole zero m = []
behind_whole (suc k) m = 0x2E ∷ last_digits (suc k) m

-- m units of 10^-places: the whole part, without leading zeros except `0` itself, and what follows it
unfoldable pub placed_text : ℕ → ℕ → List ℕ
placed_text places m = digits (m / 10 ^ places) ++ behind_whole places m

-- `-` before negatives
unfoldable pub signed_text : ℕ → ℤ → List ℕ
signed_text places (pos m) = placed_text places m
signed_text places (negsuc m) = 0x2D ∷ placed_text places (suc m)

unfoldable pub value_text : ℤ → ℕ → ℕ → List ℕ
value_text n shift places = signed_text places (in_last_places n shift places)

-- ---- what is turned down

-- 17: places above 9 or shift above 31
abbrev pub out_of_range : ℕ → ℕ → Bool
out_of_range shift places = ltb 9 places || ltb 31 shift

-- 18: a number beyond 2^53 in size
abbrev pub beyond : ℤ → Bool
beyond n = not (within greatest_total n)

-- 19: a buffer of `room` bytes is shorter than the text
abbrev pub shorter : ℕ → List ℕ → Bool
shorter room text = ltb room (length text)

abbrev pub room_rules : List ℕ → ℕ → List Rule
room_rules text room = rule ValueRoom (shorter room text) ∷ []

unfoldable pub value_rules : ℤ → ℕ → ℕ → ℕ → List Rule
value_rules n shift places room = rule PlacesOrShift (out_of_range shift places) ∷ rule NumberTooGreat (beyond n) ∷ room_rules (value_text n shift places) room

-- ---- the answer and the buffer

-- the answer: what refuses, or how many bytes the text has
abbrev pub printed_by : Ruling → List ℕ → Result ℕ Refusal
printed_by ruling text = unless_refused ruling (length text)

-- what each case of it stands for: the number that refused, and how many bytes were written
abbrev pub printed_refusal : Result ℕ Refusal → Option ℕ
printed_refusal (Ok n) = none
printed_refusal (Err e) = some (number_of e)

abbrev pub printed_bytes : Result ℕ Refusal → ℕ
printed_bytes (Ok n) = n
printed_bytes (Err e) = 0

module _ (b : List ℕ) (n : ℤ) (shift places : ℕ) where
  unfoldable pub value_ruling : Ruling
  value_ruling = first_of (value_rules n shift places (length b))

  unfoldable pub printed_answer : Result ℕ Refusal
  printed_answer = printed_by value_ruling (value_text n shift places)

  -- the text from the front and every later byte as it was, or all as it was
  unfoldable pub printed_buffer : List ℕ
  printed_buffer = buffer_by value_ruling (value_text n shift places) b

-- no text that is printed is longer
abbrev pub longest_value : ℕ
longest_value = 27
