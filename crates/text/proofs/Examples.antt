-- The two lines of 01, The text line, and a line of the greatest length, as the definitions compute them.
use Prim.Native.Nat.{ℕ}
use mathlib.Core.Bool.{true, false}
use mathlib.Core.List.{List, [], ◌∷◌}
use mathlib.Core.Path.{◌≡◌, refl}
use native.Mathlib.Decide.{dec_le, dec_lt}
use lib.IntN.{ℤ, pos, negsuc}
use lib.ListN.{length, replicate}
use Rattle.setup.specs.Layout.{parts_of, groups_carried, parts_at}
use Rattle.setup.specs.declared.Setup.{Setup}
use Rattle.gaps.specs.declared.Gap.TheVariants.{Missed}
use Rattle.motion.specs.Totals.{groups_kept}
use Rattle.motion.specs.declared.Total.{Total}
use Rattle.motion.specs.Totals.{GroupTotals}
use Rattle.motion.specs.Totals.{Totals}
use Rattle.shown_line.specs.Decimal.{digits_by, digits_from, digits, decimal}
use Rattle.shown_line.specs.ShownLine.{group_fields, groups_fields, shown_fields, parted, shown_text, longest_line}
use Rattle.text.specs.TextLine.{shown_by, line_text}

-- ---- the example setup, 1000,90,0,3,0,0,21,0,0, with gyro X 8388600 and then -8388600

abbrev setup : Setup
setup = record { rate = 1000; identifier = 0x90; termination = 0; units = 3 ∷ 0 ∷ 0 ∷ []; shifts = 21 ∷ 0 ∷ 0 ∷ [] }

abbrev total : ℤ → Total
total z = record { begun = true; steps = z }

abbrev none : Total
none = record { begun = false; steps = pos 0 }

abbrev totals : ℤ → Totals
totals z =
    let group : GroupTotals = record { x = none; y = none; z = none } in
    record { gyro = record { x = total z; y = total (pos 0); z = total (pos 0) }; accelerometer = group; inclinometer = group }

abbrev readings : ℤ → List (List ℤ)
readings x = (x ∷ pos 0 ∷ pos 0 ∷ []) ∷ replicate 3 (pos 0) ∷ replicate 3 (pos 0) ∷ []

abbrev first_line : List ℕ
first_line =
    0x31 ∷ 0x2C ∷ 0x32 ∷ 0x2C ∷ 0x30 ∷ 0x2C ∷ 0x30 ∷ 0x2C ∷ 0x38 ∷ 0x33 ∷ 0x38 ∷ 0x38 ∷ 0x36 ∷ 0x30 ∷ 0x30 ∷ 0x2C ∷
    0x30 ∷ 0x2C ∷ 0x30 ∷ 0x2C ∷ 0x30 ∷ 0x2C ∷ 0x30 ∷ 0x2C ∷ 0x30 ∷ 0x2C ∷ 0x30 ∷ 0x2C ∷ 0x2C ∷ 0x2C ∷ 0x2C ∷ 0x2C ∷
    0x2C ∷ 0x2C ∷ 0x2C ∷ 0x2C ∷ 0x2C ∷ 0x2C ∷ 0x2C ∷ 0x2C ∷ 0x2C ∷ 0x0A ∷ []

abbrev second_line : List ℕ
second_line =
    0x32 ∷ 0x2C ∷ 0x34 ∷ 0x2C ∷ 0x30 ∷ 0x2C ∷ 0x30 ∷ 0x2C ∷ 0x2D ∷ 0x38 ∷ 0x33 ∷ 0x38 ∷ 0x38 ∷ 0x36 ∷ 0x30 ∷ 0x30 ∷
    0x2C ∷ 0x30 ∷ 0x2C ∷ 0x30 ∷ 0x2C ∷ 0x30 ∷ 0x2C ∷ 0x31 ∷ 0x36 ∷ 0x2C ∷ 0x30 ∷ 0x2C ∷ 0x30 ∷ 0x2C ∷ 0x2C ∷ 0x2C ∷
    0x2C ∷ 0x2C ∷ 0x2C ∷ 0x2C ∷ 0x2C ∷ 0x2C ∷ 0x2C ∷ 0x2C ∷ 0x2C ∷ 0x2C ∷ 0x2C ∷ 0x0A ∷ []

pub first_line_lem : line_text setup 1 2 0 (Missed (record { 0 = 0 })) (readings (pos 8388600)) (0 ∷ 0 ∷ 0 ∷ []) (totals (pos 0)) ≡ first_line
unfolding line_text shown_text shown_fields shown_by groups_fields group_fields parted decimal digits digits_from digits_by dec_lt dec_le groups_carried parts_at parts_of groups_kept
first_line_lem = refl

pub second_line_lem : line_text setup 2 4 0 (Missed (record { 0 = 0 })) (readings (negsuc 8388599)) (0 ∷ 0 ∷ 0 ∷ []) (totals (pos 16)) ≡ second_line
unfolding line_text shown_text shown_fields shown_by groups_fields group_fields parted decimal digits digits_from digits_by dec_lt dec_le groups_carried parts_at parts_of groups_kept
second_line_lem = refl

-- ---- every group carried and integrated, every number the longest of its type

abbrev full_setup : Setup
full_setup = record { rate = 2000; identifier = 0x93; termination = 0; units = 3 ∷ 3 ∷ 3 ∷ []; shifts = 21 ∷ 0 ∷ 0 ∷ [] }

abbrev full_totals : Totals
full_totals =
    let least = total (negsuc 9007199254740991) in
    let group : GroupTotals = record { x = least; y = least; z = least } in
    record { gyro = group; accelerometer = group; inclinometer = group }

-- 01 has no line longer than `longest_line`, and this one is as long
pub longest_reached : length (line_text full_setup 18446744073709551615 255 65535 (Missed (record { 0 = 18446744073709551615 })) (replicate 3 (replicate 3 (negsuc 8388607))) (255 ∷ 255 ∷ 255 ∷ []) full_totals) ≡ longest_line
unfolding line_text shown_text shown_fields shown_by groups_fields group_fields parted decimal digits digits_from digits_by dec_lt dec_le groups_carried parts_at parts_of groups_kept
longest_reached = refl
