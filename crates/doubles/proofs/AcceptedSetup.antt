-- The sensor that an accepted setup describes has the setup's numbers, so values and doubles by the one are those by the other. Assumes nothing.
use Prim.Native.Nat.{ℕ, ◌^◌, ◌<◌, ◌≤◌}
use mathlib.Core.List.{List, []}
use mathlib.Core.Path.{◌≡◌, sym, ap, ◌∙◌, subst}
use lib.Ieee.{Float}
use lib.Ieee.Exact.{HasValue}
use lib.IntN.{ℤ, pos, nat_abs}
use lib.ListN.{get_or}
use Rattle.setup.specs.Setup.{ruling_on}
use Rattle.setup.specs.Sensor.{sensor_of}
use Rattle.setup.specs.declared.Setup.{Setup}
use Rattle.setup.specs.declared.Sensor.{Sensor}
use Rattle.setup.proofs.Sensors.{sensor_unit, sensor_shift, sensor_shift_limit}
use Rattle.motion.specs.Totals.{unit_in}
use Rattle.motion.specs.declared.Axis.{Axis}
use Rattle.doubles.specs.declared.Values.{Values}
use Rattle.doubles.specs.Doubles.{negative, quotient, plus_zero, known_shift, unit_number_in, doubles_in, shift_in, group_values, values_for, total_double}
use Rattle.doubles.proofs.Doubles.{shift_known, reading_exact, total_exact, values_unit, values_double, values_at_lem}
use Rattle.std.specs.Prelude.{Ok}

module _ (u : Setup) (a : ruling_on u ≡ Ok tt) where
  abbrev s : Sensor
  s = sensor_of u

  -- the shift of a group
  shift_at : (group : ℕ) → group < 3 → known_shift (shift_in s.shifts group) ≡ get_or u.shifts group 0
  shift_at group h = shift_known (shift_in s.shifts group) (sensor_shift_limit u a group h) ∙ sensor_shift u group h

  -- the values of a group: their unit, and the double of each reading, which is the reading over 2 ^ shift
  module _ (readings : List (List ℤ)) (group : ℕ) (h : group < 3) where
    abbrev given : Values
    given = values_for (group_values s.units s.shifts readings) group

    pub accepted_unit : unit_number_in given ≡ get_or u.units group 0
    accepted_unit =
        ap unit_number_in (values_at_lem s.units s.shifts readings group h)
        ∙ values_unit (unit_in s.units group) (shift_in s.shifts group) (get_or readings group [])
        ∙ sensor_unit u a group h

    double_given : (axis : ℕ) → axis < 3
        → get_or (doubles_in given) axis plus_zero ≡ quotient (get_or (get_or readings group []) axis (pos 0)) (known_shift (shift_in s.shifts group))
    double_given axis k =
        ap (λ (v : Values). get_or (doubles_in v) axis plus_zero) (values_at_lem s.units s.shifts readings group h)
        ∙ values_double (unit_in s.units group) (shift_in s.shifts group) (get_or readings group []) axis k

    pub accepted_value : (axis : ℕ) → axis < 3 →
        let r = get_or (get_or readings group []) axis (pos 0) in
        nat_abs r ≤ 2 ^ 31 → HasValue (get_or (doubles_in given) axis plus_zero) (negative r) (nat_abs r) (2 ^ get_or u.shifts group 0)
    accepted_value axis k small =
        let r = get_or (get_or readings group []) axis (pos 0) in
        subst (λ (x : Float). HasValue x (negative r) (nat_abs r) (2 ^ get_or u.shifts group 0)) (sym (double_given axis k))
        (subst (λ (n : ℕ). HasValue (quotient r (known_shift (shift_in s.shifts group))) (negative r) (nat_abs r) (2 ^ n)) (shift_at group h)
        (reading_exact r (shift_in s.shifts group) small))

  -- the double of a total, which is the total over 2 ^ shift
  pub accepted_total : (x : Axis) (group : ℕ) → group < 3 → nat_abs x.total ≤ 2 ^ 53
      → HasValue (total_double x (shift_in s.shifts group)) (negative x.total) (nat_abs x.total) (2 ^ get_or u.shifts group 0)
  accepted_total x group h small =
      subst (λ (n : ℕ). HasValue (total_double x (shift_in s.shifts group)) (negative x.total) (nat_abs x.total) (2 ^ n)) (shift_at group h)
      (total_exact x (shift_in s.shifts group) small)
