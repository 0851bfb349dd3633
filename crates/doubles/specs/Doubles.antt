-- 01, Status, doubles, gaps; Totals: the values of a group and the totals as doubles, each exactly reading / 2^shift or total / 2^shift.
use Rattle.std.specs.Prelude.{ℕ, ◌^◌, Bool, true, false, cond, List, [], ◌∷◌, leb, ℤ, pos, negsuc, nat_abs, get_or, Float}
use Rattle.std.specs.Float.{fin, binary64}
use Rattle.std.specs.Float.Ieee.{round}
use Rattle.integers.specs.Ranges.{within}
use Rattle.groups.specs.declared.PerAxis.{PerAxis}
use Rattle.groups.specs.declared.PerGroup.{PerGroup}
use Rattle.setup.specs.Sensor.{Units, Shifts, shifts_in}
use Rattle.setup.specs.declared.Unit as unit
use Rattle.setup.specs.declared.Unit.{Unit}
use Rattle.motion.specs.Totals.{greatest_total, unit_in, one_of, axis_at, GroupAxes, Axes}
use Rattle.motion.specs.declared.Axis.{Axis}
use Rattle.doubles.specs.declared.Values.{Values}
use Rattle.doubles.specs.declared.Values.TheVariants.{Instantaneous, Incremental, Average, Integrated}
use Rattle.doubles.specs.declared.TotalDoubles.{TotalDoubles}

abbrev pub negative : ℤ → Bool
negative (pos n) = false
negative (negsuc n) = true

-- the double nearest to n / 2 ^ k. For an n of at most 2 ^ 53 in size and a k of at most 31 it is n / 2 ^ k (`exact` of proofs/Doubles.antt),
-- and zero is +0.
unfoldable pub quotient : ℤ → ℕ → Float
quotient n k = round binary64 (negative n) (nat_abs n) (2 ^ k)

abbrev pub plus_zero : Float
plus_zero = fin false 0 (pos 0)

-- a shift above 31, which no accepted setup has, counts as 0
unfoldable pub known_shift : ℕ → ℕ
known_shift k = cond (leb k 31) k 0

-- 01's number of a unit, and the doubles that come with it
abbrev pub unit_number_in : Values → ℕ
unit_number_in (Instantaneous x y z) = 0
unit_number_in (Incremental x y z) = 1
unit_number_in (Average x y z) = 2
unit_number_in (Integrated x y z) = 3

abbrev pub doubles_in : Values → List Float
doubles_in (Instantaneous x y z) = x ∷ y ∷ z ∷ []
doubles_in (Incremental x y z) = x ∷ y ∷ z ∷ []
doubles_in (Average x y z) = x ∷ y ∷ z ∷ []
doubles_in (Integrated x y z) = x ∷ y ∷ z ∷ []

-- the values come back as instantaneous, incremental, average or integrated, by the group's unit
unfoldable pub values_in : Unit → Float → Float → Float → Values
values_in unit.TheVariants.Instantaneous x y z = Instantaneous x y z
values_in unit.TheVariants.Incremental x y z = Incremental x y z
values_in unit.TheVariants.Average x y z = Average x y z
values_in unit.TheVariants.Integrated x y z = Integrated x y z

-- the values of a group from its unit, its shift and its readings
unfoldable pub values_of : Unit → ℕ → List ℤ → Values
values_of unit shift readings =
    let double : ℕ → Float = λ axis. quotient (get_or readings axis (pos 0)) (known_shift shift) in
    values_in unit (double 0) (double 1) (double 2)

-- the shift of a group
abbrev pub shift_in : Shifts → ℕ → ℕ
shift_in s group = get_or (shifts_in s) group 0

-- the values of the three groups
abbrev pub GroupValues : Type 0
GroupValues = PerGroup Values

abbrev pub values_at : Units → Shifts → List (List ℤ) → ℕ → Values
values_at units shifts readings group = values_of (unit_in units group) (shift_in shifts group) (get_or readings group [])

unfoldable pub group_values : Units → Shifts → List (List ℤ) → GroupValues
group_values units shifts readings =
    record {
      gyro = values_at units shifts readings 0;
      accelerometer = values_at units shifts readings 1;
      inclinometer = values_at units shifts readings 2;
    }

abbrev pub values_for : GroupValues → ℕ → Values
values_for v group = one_of v.gyro v.accelerometer v.inclinometer group

-- ---- totals

-- total / 2 ^ shift; +0 for a total beyond the greatest
unfoldable pub total_double : Axis → ℕ → Float
total_double a shift = cond (within greatest_total a.total) (quotient a.total (known_shift shift)) plus_zero

abbrev pub GroupDoubles : Type 0
GroupDoubles = PerAxis Float

unfoldable pub group_doubles : GroupAxes → ℕ → GroupDoubles
group_doubles g shift = record { x = total_double g.x shift; y = total_double g.y shift; z = total_double g.z shift }

abbrev pub double_of : Shifts → Axes → ℕ → ℕ → Float
double_of s a group axis = total_double (axis_at a group axis) (shift_in s group)

unfoldable pub total_doubles : Shifts → Axes → TotalDoubles
total_doubles s a =
    record {
      gyro_x = double_of s a 0 0;
      gyro_y = double_of s a 0 1;
      gyro_z = double_of s a 0 2;
      accelerometer_x = double_of s a 1 0;
      accelerometer_y = double_of s a 1 1;
      accelerometer_z = double_of s a 1 2;
      inclinometer_x = double_of s a 2 0;
      inclinometer_y = double_of s a 2 1;
      inclinometer_z = double_of s a 2 2;
    }

-- the double of an axis of a group
abbrev pub double_at : TotalDoubles → ℕ → ℕ → Float
double_at t group axis =
    one_of (one_of t.gyro_x t.gyro_y t.gyro_z axis) (one_of t.accelerometer_x t.accelerometer_y t.accelerometer_z axis)
    (one_of t.inclinometer_x t.inclinometer_y t.inclinometer_z axis)
    group
