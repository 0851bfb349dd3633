-- 01, Totals: the total of an axis over the datagrams handed out, and what demand 3 says of it.
use Rattle.std.specs.Prelude.{◌≡◌, ℕ, zero, suc, ◌-◌, ◌*◌, ◌^◌, ◌<◌, Bool, true, false, cond, ◌&&◌, List, [], ◌∷◌, length, take, ℤ, pos, ◌+ℤ◌, ◌-ℤ◌, ◌*ℤ◌, ◌==◌, slice_index, slice_index_or, unsigned_abs}
use Rattle.integers.specs.Rounding.{floor}
use Rattle.integers.specs.Folding.{fold}
use Rattle.integers.specs.Ranges.{within}
use Rattle.groups.specs.declared.PerAxis.{PerAxis}
use Rattle.groups.specs.declared.PerGroup.{PerGroup}
use Rattle.setup.specs.Layout.{groups_of, groups_carried}
use Rattle.setup.specs.Setup.{unit_number}
use Rattle.setup.specs.Sensor.{Units, units_in}
use Rattle.setup.specs.declared.Setup.{Setup}
use Rattle.setup.specs.declared.Row.{Row}
use Rattle.setup.specs.declared.Unit as unit
use Rattle.motion.specs.Status.{fit}
use Rattle.motion.specs.declared.Axis.{Axis}
use Rattle.motion.specs.declared.Total.{Total}

-- ---- one axis

-- one datagram as an axis sees it: whether its group's status byte leaves the axis fit, and its reading
pub record Sighting : Type 0 where
  pub fit : Bool
  pub reading : ℤ

-- the difference of two readings, taken modulo 2 ^ 24 into -8388608 .. 8388607
unfoldable pub difference : ℤ → ℤ → ℤ
difference new old = fold (new -ℤ old)

-- the first fit datagram makes the total 0, each later fit one adds the difference between its reading and the last fit reading
unfoldable pub fit_step : Axis → ℤ → Axis
fit_step a r = record { begun = true; last = r; total = cond a.begun (a.total +ℤ difference r a.last) (pos 0) }

-- unfit ones alter neither
unfoldable pub axis_step : Axis → Sighting → Axis
axis_step a d = cond d.fit (fit_step a d.reading) a

-- the greatest size of a total; a greater one, which no session has, is neither moved on nor told as a double
abbrev pub greatest_total : ℕ
greatest_total = 2 ^ 53

-- a datagram on an axis that keeps a total; one that keeps none stays as it is
unfoldable pub kept_step : Bool → Axis → Sighting → Axis
kept_step kept a d = cond (kept && within greatest_total a.total) (axis_step a d) a

-- ---- the nine axes; groups are gyro 0, accelerometer 1, inclinometer 2, and axes X 0, Y 1, Z 2

abbrev pub GroupAxes : Type 0
GroupAxes = PerAxis Axis

abbrev pub Axes : Type 0
Axes = PerGroup GroupAxes

-- an axis to which no fit datagram came, a group of them, and all nine
abbrev pub no_axis : Axis
no_axis = record { begun = false; last = pos 0; total = pos 0 }

abbrev pub no_group : GroupAxes
no_group = record { x = no_axis; y = no_axis; z = no_axis }

abbrev pub no_axes : Axes
no_axes = record { gyro = no_group; accelerometer = no_group; inclinometer = no_group }

-- the unit of a group
abbrev pub unit_in : Units → ℕ → unit.Unit
unit_in u group = slice_index_or (units_in u) group unit.TheVariants.Instantaneous

-- a total is kept for each axis of a carried group set to integrated
abbrev pub keeps : Setup → ℕ → Bool
keeps s group = slice_index_or (groups_carried s.identifier) group false && slice_index s.units group == 3

unfoldable pub groups_kept : Setup → List Bool
groups_kept s = keeps s 0 ∷ keeps s 1 ∷ keeps s 2 ∷ []

-- the same by what a datagram carries and the units of the groups
abbrev pub kept_in : Row → Units → ℕ → Bool
kept_in row units group = slice_index_or (groups_of row) group false && unit_number (unit_in units group) == 3

unfoldable pub kept_by : Row → Units → List Bool
kept_by row units = kept_in row units 0 ∷ kept_in row units 1 ∷ kept_in row units 2 ∷ []

-- what an axis of a group sees of the group's status byte and readings
abbrev pub seen_in : ℕ → List ℤ → ℕ → Sighting
seen_in status readings axis = record { fit = fit status axis; reading = slice_index_or readings axis (pos 0) }

abbrev pub seen : List (List ℤ) → List ℕ → ℕ → ℕ → Sighting
seen readings statuses group axis = seen_in (slice_index statuses group) (slice_index_or readings group []) axis

unfoldable pub group_step : Bool → GroupAxes → List ℤ → ℕ → GroupAxes
group_step kept g readings status =
    record {
      x = kept_step kept g.x (seen_in status readings 0);
      y = kept_step kept g.y (seen_in status readings 1);
      z = kept_step kept g.z (seen_in status readings 2);
    }

-- a datagram on the nine axes; kept: which groups keep totals
unfoldable pub stepped : List Bool → Axes → List (List ℤ) → List ℕ → Axes
stepped kept a readings statuses =
    record {
      gyro = group_step (slice_index_or kept 0 false) a.gyro (slice_index_or readings 0 []) (slice_index statuses 0);
      accelerometer = group_step (slice_index_or kept 1 false) a.accelerometer (slice_index_or readings 1 []) (slice_index statuses 1);
      inclinometer = group_step (slice_index_or kept 2 false) a.inclinometer (slice_index_or readings 2 []) (slice_index statuses 2);
    }

-- one of three by its number: of the groups gyro 0, accelerometer 1, inclinometer 2, of the axes X 0, Y 1, Z 2
abbrev pub one_of : {A : Type 0} → A → A → A → ℕ → A
one_of a b c zero = a
one_of a b c (suc zero) = b
one_of a b c (suc (suc n)) = c

-- the axis of a group
abbrev pub axis_in : GroupAxes → ℕ → Axis
axis_in g axis = one_of g.x g.y g.z axis

abbrev pub axis_at : Axes → ℕ → ℕ → Axis
axis_at a group axis = axis_in (one_of a.gyro a.accelerometer a.inclinometer group) axis

-- ---- what comes back

abbrev pub GroupTotals : Type 0
GroupTotals = PerAxis Total

abbrev pub Totals : Type 0
Totals = PerGroup GroupTotals

abbrev pub total_of : Axis → Total
total_of a = record { begun = a.begun; steps = a.total }

abbrev pub group_totals : GroupAxes → GroupTotals
group_totals g = record { x = total_of g.x; y = total_of g.y; z = total_of g.z }

unfoldable pub totals_of : Axes → Totals
totals_of a = record { gyro = group_totals a.gyro; accelerometer = group_totals a.accelerometer; inclinometer = group_totals a.inclinometer }

-- the total of an axis of a group
abbrev pub total_in : GroupTotals → ℕ → Total
total_in g axis = one_of g.x g.y g.z axis

abbrev pub total_at : Totals → ℕ → ℕ → Total
total_at t group axis = total_in (one_of t.gyro t.accelerometer t.inclinometer group) axis

-- ---- demand 3 of one axis, over the datagrams that it sees

-- the axis after them
unfoldable pub after : Axis → List Sighting → Axis
after a [] = a
after a (d ∷ ds) = after (axis_step a d) ds

-- the readings of the fit ones, in order
unfoldable pub fit_readings : List Sighting → List ℤ
fit_readings [] = []
fit_readings (d ∷ ds) = cond d.fit (d.reading ∷ fit_readings ds) (fit_readings ds)

-- how many fit ones stand before a place, and what stands beyond the last
unfoldable pub fit_before : List Sighting → ℕ → ℕ
fit_before ds i = length (fit_readings (take i ds))

abbrev pub none : Sighting
none = record { fit = false; reading = pos 0 }

-- the reading of the true value t in steps of d: t / d rounded down and folded
unfoldable pub reading_of : ℕ → ℤ → ℤ
reading_of d t = fold (floor t d)

-- neighbours differ by less than (2 ^ 23 - 1) * d
unfoldable pub CloseFrom : ℕ → ℤ → List ℤ → Type 0
CloseFrom d t [] = Unit {0}
CloseFrom d t (u ∷ us) = (unsigned_abs (u -ℤ t) < (2 ^ 23 - 1) * d) × CloseFrom d u us

unfoldable pub Close : ℕ → List ℤ → Type 0
Close d [] = Unit {0}
Close d (t ∷ ts) = CloseFrom d t ts

-- the axis stands for the change from the true value t₀ to t: its total is the difference of the two rounded down, and less than one step
-- from the change
pub record Stands (d : ℕ) (t₀ t : ℤ) (a : Axis) : Type 0 where
  pub begun : a.begun ≡ true
  pub exact : a.total ≡ floor t d -ℤ floor t₀ d
  pub near : unsigned_abs (a.total *ℤ pos d -ℤ (t -ℤ t₀)) < d
