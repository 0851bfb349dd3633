-- 01, The text line, by which groups and totals are shown; and 'What is turned down': 13 and 14.
use Rattle.std.specs.Prelude.{ℕ, Bool, false, not, ◌&&◌, ◌||◌, cond, List, [], ◌∷◌, ◌++◌, eqb, ltb, ℤ, pos, length, get_or, Result, Ok, Err}
use Rattle.std.proofs.Math.Option.{Option, none, some}
use Rattle.integers.specs.Ranges.{in_reading, within}
use Rattle.setup.specs.Setup.{Rule, rule, first_of, buffer_by}
use Rattle.gaps.specs.declared.Gap.{Gap}
use Rattle.gaps.specs.declared.Gap.TheVariants.{Missed, OffStep}
use Rattle.motion.specs.Totals.{greatest_total}
use Rattle.motion.specs.declared.Total.{Total}
use Rattle.motion.specs.Totals.{GroupTotals}
use Rattle.motion.specs.Totals.{Totals}
use Rattle.shown_line.specs.Decimal.{digits, decimal}
use Rattle.shown_line.specs.declared.Shown.{Shown}
use Rattle.refusals.specs.Refusals.{number_of, Ruling, unless_refused}
use Rattle.refusals.specs.declared.Refusal.{Refusal}
use Rattle.refusals.specs.declared.Refusal.TheVariants.{LineOutside, LineRoom}

-- ---- the fields

-- a field, or an empty one
abbrev pub shown_if : Bool → List ℕ → List ℕ
shown_if shown text = cond shown text []

-- missed, or `?` off step
abbrev pub missed_field : Gap → List ℕ
missed_field (Missed count) = digits count.0
missed_field OffStep = 0x3F ∷ []

-- X, Y and Z of a group
abbrev pub axis_fields : Bool → List ℤ → List (List ℕ)
axis_fields carried row =
    shown_if carried (decimal (get_or row 0 (pos 0))) ∷
    shown_if carried (decimal (get_or row 1 (pos 0))) ∷
    shown_if carried (decimal (get_or row 2 (pos 0))) ∷
    []

-- a total, empty where it isn't kept or not begun
abbrev pub total_field : Bool → Total → List ℕ
total_field kept t = shown_if (kept && t.begun) (decimal t.steps)

abbrev pub total_fields : Bool → GroupTotals → List (List ℕ)
total_fields kept t = total_field kept t.x ∷ total_field kept t.y ∷ total_field kept t.z ∷ []

-- X, Y, Z, status, total X, Y, Z; all empty where the group isn't carried
unfoldable pub group_fields : Bool → Bool → List ℤ → ℕ → GroupTotals → List (List ℕ)
group_fields carried kept row status totals =
    axis_fields carried row ++ shown_if carried (digits status) ∷ total_fields (carried && kept) totals

-- gyro, accelerometer, inclinometer
unfoldable pub groups_fields : List Bool → List Bool → List (List ℤ) → List ℕ → Totals → List (List ℕ)
groups_fields carried kept readings statuses totals =
    group_fields (get_or carried 0 false) (get_or kept 0 false) (get_or readings 0 []) (get_or statuses 0 0) totals.gyro ++
    (group_fields (get_or carried 1 false) (get_or kept 1 false) (get_or readings 1 []) (get_or statuses 1 0) totals.accelerometer ++
    group_fields (get_or carried 2 false) (get_or kept 2 false) (get_or readings 2 []) (get_or statuses 2 0) totals.inclinometer)

-- the 25 fields: ordinal, counter, latency, missed; then those of the groups
unfoldable pub shown_fields : Shown → ℕ → ℕ → ℕ → Gap → List (List ℤ) → List ℕ → Totals → List (List ℕ)
shown_fields shown ordinal counter latency gap readings statuses totals =
    digits ordinal ∷ digits counter ∷ digits latency ∷ missed_field gap ∷
    groups_fields shown.carried shown.kept readings statuses totals

-- ---- the line

-- fields parted by commas
unfoldable pub parted : List (List ℕ) → List ℕ
parted [] = []
parted (f ∷ []) = f
parted (f ∷ g ∷ gs) = f ++ 0x2C ∷ parted (g ∷ gs)

-- then byte 0x0A
unfoldable pub shown_text : Shown → ℕ → ℕ → ℕ → Gap → List (List ℤ) → List ℕ → Totals → List ℕ
shown_text shown ordinal counter latency gap readings statuses totals =
    parted (shown_fields shown ordinal counter latency gap readings statuses totals) ++ 0x0A ∷ []

-- ---- what is turned down

-- the readings of a group, and all nine, are in 24 bits
abbrev pub row_fits : List ℤ → Bool
row_fits row = in_reading (get_or row 0 (pos 0)) && in_reading (get_or row 1 (pos 0)) && in_reading (get_or row 2 (pos 0))

unfoldable pub readings_fit : List (List ℤ) → Bool
readings_fit readings = row_fits (get_or readings 0 []) && row_fits (get_or readings 1 []) && row_fits (get_or readings 2 [])

-- a total, those of a group, and all nine, are at most 2^53 in size
abbrev pub total_within : Total → Bool
total_within t = within greatest_total t.steps

abbrev pub group_within : GroupTotals → Bool
group_within t = total_within t.x && total_within t.y && total_within t.z

unfoldable pub totals_within : Totals → Bool
totals_within t = group_within t.gyro && group_within t.accelerometer && group_within t.inclinometer

-- 13: a reading is outside 24 bits, a total is beyond 2^53 in size, or the ordinal is 0
unfoldable pub outside : ℕ → List (List ℤ) → Totals → Bool
outside ordinal readings totals = not (readings_fit readings) || not (totals_within totals) || eqb ordinal 0

-- 14: a buffer of `room` bytes is shorter than the line
abbrev pub room_rules : List ℕ → ℕ → List Rule
room_rules text room = rule LineRoom (ltb room (length text)) ∷ []

-- the rules for a line with this text, whatever shows it
unfoldable pub shown_rules : ℕ → List (List ℤ) → Totals → List ℕ → ℕ → List Rule
shown_rules ordinal readings totals text room = rule LineOutside (outside ordinal readings totals) ∷ room_rules text room

-- ---- the answer and the buffer

-- the answer: what refuses the line, or how many bytes it has
abbrev pub written_by : Ruling → List ℕ → Result ℕ Refusal
written_by ruling text = unless_refused ruling (length text)

-- what each case of it stands for: the number that refused the line, and how many bytes were written
abbrev pub written_number : Result ℕ Refusal → Option ℕ
written_number (Ok n) = none
written_number (Err e) = some (number_of e)

abbrev pub written_bytes : Result ℕ Refusal → ℕ
written_bytes (Ok n) = n
written_bytes (Err e) = 0

module _ (b : List ℕ) (shown : Shown) (ordinal counter latency : ℕ) (gap : Gap) (readings : List (List ℤ)) (statuses : List ℕ) (totals : Totals) where
  unfoldable pub shown_ruling : Ruling
  shown_ruling = first_of (shown_rules ordinal readings totals (shown_text shown ordinal counter latency gap readings statuses totals) (length b))

  unfoldable pub shown_answer : Result ℕ Refusal
  shown_answer = written_by shown_ruling (shown_text shown ordinal counter latency gap readings statuses totals)

  unfoldable pub shown_buffer : List ℕ
  shown_buffer = buffer_by shown_ruling (shown_text shown ordinal counter latency gap readings statuses totals) b

-- no line that is written is longer
abbrev pub longest_line : ℕ
longest_line = 307
