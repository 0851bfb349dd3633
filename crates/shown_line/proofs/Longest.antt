-- How long a line can be: 307 bytes, where each number is one of its type, the readings are in 24 bits and the totals at most 2^53 in size.
use mathlib.Core.Path.{◌≡◌, ap}
use mathlib.Core.Bool.{Bool, true, false, ◌&&◌}
use mathlib.Core.List.{List, [], ◌∷◌, ◌++◌}
use Prim.Native.Nat.{ℕ, suc, ◌*◌, ◌^◌, ◌≤◌, ◌<◌}
use native.Mathlib.Omega.{arith}
use lib.IntN.{ℤ, pos, negsuc, nat_abs}
use lib.ListN.{length, length-append, get_or}
use Rattle.integers.specs.Ranges.{in_reading}
use Rattle.integers.proofs.Parts.{nat_abs_parts, parts_apart}
use Rattle.integers.proofs.Booleans.{and_split}
use Rattle.integers.proofs.Ranges.{within_true, in_reading_true}
use Rattle.gaps.specs.declared.Gap.{Gap}
use Rattle.gaps.specs.declared.Gap.TheVariants.{Missed, OffStep}
use Rattle.motion.specs.declared.Total.{Total}
use Rattle.motion.specs.Totals.{GroupTotals}
use Rattle.motion.specs.Totals.{Totals}
use Rattle.shown_line.specs.Decimal.{digits, decimal}
use Rattle.shown_line.specs.Putting.{behind, heading_text}
use Rattle.shown_line.specs.ShownLine.{shown_if, missed_field, axis_fields, total_field, total_fields, group_fields, groups_fields, shown_text, row_fits, readings_fit, total_within, group_within, totals_within, longest_line}
use Rattle.shown_line.specs.declared.Shown.{Shown}
use Rattle.shown_line.proofs.Digits.{digits_at_most}
use Rattle.shown_line.proofs.Fields.{behind_append, line_text_lem}

-- ---- fields

decimal_at_most : (k : ℕ) (z : ℤ) → nat_abs z < 10 ^ suc k → length (decimal z) ≤ suc (suc k)
unfolding decimal
decimal_at_most k (pos n) h = omega (arith, digits_at_most k n h)
decimal_at_most k (negsuc n) h = omega (arith, digits_at_most k (suc n) h)

shown_at_most : (shown : Bool) (text : List ℕ) {k : ℕ} → length text ≤ k → length (shown_if shown text) ≤ k
shown_at_most true text h = h
shown_at_most false text h = omega arith

axis_at_most : (carried : Bool) (z : ℤ) → in_reading z ≡ true → length (shown_if carried (decimal z)) ≤ 8
axis_at_most carried z e =
    let r = in_reading_true z e in
    let h : nat_abs z < 10 ^ 7 = omega (arith, nat_abs_parts z, parts_apart z) in
    shown_at_most carried (decimal z) (decimal_at_most 6 z h)

total_at_most : (kept : Bool) (t : Total) → total_within t ≡ true → length (total_field kept t) ≤ 17
total_at_most kept t e =
    let h : nat_abs t.steps < 10 ^ 16 = omega (arith, within_true (2 ^ 53) t.steps e) in
    shown_at_most (kept && t.begun) (decimal t.steps) (decimal_at_most 15 t.steps h)

-- the missed count is a number of its type
abbrev pub MissedFits : Gap → Type 0
MissedFits (Missed count) = count.0 < 2 ^ 64
MissedFits OffStep = Unit {0}

missed_at_most : (gap : Gap) → MissedFits gap → length (missed_field gap) ≤ 20
missed_at_most (Missed count) h = digits_at_most 19 count.0 (omega arith)
missed_at_most OffStep h = omega arith

-- ---- rows of fields

three_at_most : (a b c : List ℕ) {k : ℕ} → length a ≤ k → length b ≤ k → length c ≤ k → length (behind (a ∷ b ∷ c ∷ [])) ≤ 3 * suc k
three_at_most a b c p q r =
    omega (arith, length-append a (behind (b ∷ c ∷ [])), length-append b (behind (c ∷ [])), length-append c [])

axes_at_most : (carried : Bool) (row : List ℤ) → row_fits row ≡ true → length (behind (axis_fields carried row)) ≤ 27
axes_at_most carried row e =
    let x = get_or row 0 (pos 0) in
    let y = get_or row 1 (pos 0) in
    let z = get_or row 2 (pos 0) in
    let last = and_split (in_reading x && in_reading y) (in_reading z) e in
    let front = and_split (in_reading x) (in_reading y) last.0 in
    three_at_most (shown_if carried (decimal x)) (shown_if carried (decimal y)) (shown_if carried (decimal z)) (axis_at_most carried x front.0) (axis_at_most carried y front.1) (axis_at_most carried z last.1)

totals_at_most : (kept : Bool) (t : GroupTotals) → group_within t ≡ true → length (behind (total_fields kept t)) ≤ 54
totals_at_most kept t e =
    let last = and_split (total_within t.x && total_within t.y) (total_within t.z) e in
    let front = and_split (total_within t.x) (total_within t.y) last.0 in
    three_at_most (total_field kept t.x) (total_field kept t.y) (total_field kept t.z) (total_at_most kept t.x front.0) (total_at_most kept t.y front.1) (total_at_most kept t.z last.1)

group_at_most : (carried kept : Bool) (row : List ℤ) (status : ℕ) (t : GroupTotals) → row_fits row ≡ true → status < 256 → group_within t ≡ true
    → length (behind (group_fields carried kept row status t)) ≤ 85
unfolding group_fields
group_at_most carried kept row status t e h f =
    let s = shown_if carried (digits status) in
    let ts = total_fields (carried && kept) t in
    omega (
      arith,
      ap length (behind_append (axis_fields carried row) (s ∷ ts)),
      length-append (behind (axis_fields carried row)) (behind (s ∷ ts)),
      length-append s (behind ts),
      axes_at_most carried row e,
      shown_at_most carried (digits status) (digits_at_most 2 status (omega arith)),
      totals_at_most (carried && kept) t f,
    )

groups_at_most : (carried kept : List Bool) (readings : List (List ℤ)) (statuses : List ℕ) (totals : Totals)
    → readings_fit readings ≡ true → ((i : ℕ) → get_or statuses i 0 < 256) → totals_within totals ≡ true
    → length (behind (groups_fields carried kept readings statuses totals)) ≤ 255
unfolding groups_fields readings_fit totals_within
groups_at_most carried kept readings statuses totals e h f =
    let last = and_split (row_fits (get_or readings 0 []) && row_fits (get_or readings 1 [])) (row_fits (get_or readings 2 [])) e in
    let front = and_split (row_fits (get_or readings 0 [])) (row_fits (get_or readings 1 [])) last.0 in
    let end = and_split (group_within totals.gyro && group_within totals.accelerometer) (group_within totals.inclinometer) f in
    let begin = and_split (group_within totals.gyro) (group_within totals.accelerometer) end.0 in
    let g = group_fields (get_or carried 0 false) (get_or kept 0 false) (get_or readings 0 []) (get_or statuses 0 0) totals.gyro in
    let a = group_fields (get_or carried 1 false) (get_or kept 1 false) (get_or readings 1 []) (get_or statuses 1 0) totals.accelerometer in
    let i = group_fields (get_or carried 2 false) (get_or kept 2 false) (get_or readings 2 []) (get_or statuses 2 0) totals.inclinometer in
    omega (
      arith,
      ap length (behind_append g (a ++ i)),
      ap length (behind_append a i),
      length-append (behind g) (behind (a ++ i)),
      length-append (behind a) (behind i),
      group_at_most (get_or carried 0 false) (get_or kept 0 false) (get_or readings 0 []) (get_or statuses 0 0) totals.gyro front.0 (h 0) begin.0,
      group_at_most (get_or carried 1 false) (get_or kept 1 false) (get_or readings 1 []) (get_or statuses 1 0) totals.accelerometer front.1 (h 1) begin.1,
      group_at_most (get_or carried 2 false) (get_or kept 2 false) (get_or readings 2 []) (get_or statuses 2 0) totals.inclinometer last.1 (h 2) end.1,
    )

heading_at_most : (ordinal counter latency : ℕ) (gap : Gap) → ordinal < 2 ^ 64 → counter < 256 → latency < 65536 → MissedFits gap
    → length (heading_text ordinal counter latency gap) ≤ 51
heading_at_most ordinal counter latency gap o c l g =
    omega (
      arith,
      length-append (digits ordinal) (behind (digits counter ∷ digits latency ∷ missed_field gap ∷ [])),
      length-append (digits counter) (behind (digits latency ∷ missed_field gap ∷ [])),
      length-append (digits latency) (behind (missed_field gap ∷ [])),
      length-append (missed_field gap) [],
      digits_at_most 19 ordinal (omega arith),
      digits_at_most 2 counter (omega arith),
      digits_at_most 4 latency (omega arith),
      missed_at_most gap g,
    )

-- ---- the line

pub shown_longest : (shown : Shown) (ordinal counter latency : ℕ) (gap : Gap) (readings : List (List ℤ)) (statuses : List ℕ) (totals : Totals)
    → ordinal < 2 ^ 64 → counter < 256 → latency < 65536 → MissedFits gap → ((i : ℕ) → get_or statuses i 0 < 256)
    → readings_fit readings ≡ true → totals_within totals ≡ true
    → length (shown_text shown ordinal counter latency gap readings statuses totals) ≤ longest_line
shown_longest shown ordinal counter latency gap readings statuses totals o c l g s r t =
    let heading = heading_text ordinal counter latency gap in
    let groups = behind (groups_fields shown.carried shown.kept readings statuses totals) in
    omega (
      arith,
      ap length (line_text_lem shown ordinal counter latency gap readings statuses totals),
      length-append heading (groups ++ 0x0A ∷ []),
      length-append groups (0x0A ∷ []),
      heading_at_most ordinal counter latency gap o c l g,
      groups_at_most shown.carried shown.kept readings statuses totals r s t,
    )
