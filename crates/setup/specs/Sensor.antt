-- What an accepted setup says of its sensor, in types whose every value has a meaning (01, The setup line).
use Rattle.std.specs.Prelude.{ℕ, Bool, false, not, cond, List, [], ◌∷◌, eqb, ltb, get_or, Result, Ok, Err}
use Rattle.std.specs.Prelude as rust
use Rattle.std.proofs.Math.Option.{Option, none, some}
use Rattle.refusals.specs.Refusals.{number_of, unless_refused}
use Rattle.refusals.specs.declared.Refusal.{Refusal}
use Rattle.refusals.specs.declared.Refusal.TheVariants.{RateUnknown, TerminationUnknown, UnitTooGreat, ShiftTooGreat}
use Rattle.setup.specs.Layout.{row_at}
use Rattle.setup.specs.Setup.{hertz, unit_number, rate_listed, any_above, ruling_on, terminated}
use Rattle.setup.specs.declared.Setup.{Setup}
use Rattle.setup.specs.declared.Row.{Row}
use Rattle.setup.specs.declared.Unit.{Unit}
use Rattle.setup.specs.declared.Unit.TheVariants.{Instantaneous, Incremental, Average, Integrated}
use Rattle.setup.specs.declared.Rate.{Rate}
use Rattle.setup.specs.declared.Rate.TheVariants.{ExternalTrigger, Hertz125, Hertz250, Hertz500, Hertz1000, Hertz2000}
use Rattle.groups.specs.declared.PerGroup.{PerGroup}
use Rattle.setup.specs.declared.Sensor.{Sensor}

-- the rate and the unit of a number; what stands last also answers a number that 4 or 7 refuses
unfoldable pub rate_of : ℕ → Rate
rate_of n =
    cond (eqb n (hertz Hertz125)) Hertz125
    (cond (eqb n (hertz Hertz250)) Hertz250
    (cond (eqb n (hertz Hertz500)) Hertz500
    (cond (eqb n (hertz Hertz1000)) Hertz1000
    (cond (eqb n (hertz Hertz2000)) Hertz2000
    ExternalTrigger))))

unfoldable pub unit_of : ℕ → Unit
unit_of n =
    cond (eqb n (unit_number Instantaneous)) Instantaneous
    (cond (eqb n (unit_number Incremental)) Incremental
    (cond (eqb n (unit_number Average)) Average
    Integrated))

-- a unit for each group, and a shift
abbrev pub Units : Type 0
Units = PerGroup Unit

abbrev pub Shifts : Type 0
Shifts = PerGroup ℕ

-- the groups in the order gyro, accelerometer, inclinometer
abbrev pub units_in : Units → List Unit
units_in us = us.gyro ∷ us.accelerometer ∷ us.inclinometer ∷ []

abbrev pub shifts_in : Shifts → List ℕ
shifts_in ks = ks.gyro ∷ ks.accelerometer ∷ ks.inclinometer ∷ []

abbrev pub units_of : List ℕ → Units
units_of ns = record { gyro = unit_of (get_or ns 0 0); accelerometer = unit_of (get_or ns 1 0); inclinometer = unit_of (get_or ns 2 0) }

abbrev pub shifts_of : List ℕ → Shifts
shifts_of ns = record { gyro = get_or ns 0 0; accelerometer = get_or ns 1 0; inclinometer = get_or ns 2 0 }

-- the same, or what refuses a number: 4 of the rate, 6 of the termination, 7 of the units, 8 of the shifts
abbrev pub unless : {A : Type 0} → Bool → Refusal → A → Result A Refusal
unless applies e value = cond applies (Err e) (Ok value)

abbrev pub rate_by : ℕ → Result Rate Refusal
rate_by n = unless (not (rate_listed n)) RateUnknown (rate_of n)

abbrev pub terminated_by : ℕ → Result Bool Refusal
terminated_by n = unless (ltb 1 n) TerminationUnknown (eqb n 1)

abbrev pub unit_by : ℕ → Result Unit Refusal
unit_by n = unless (ltb 3 n) UnitTooGreat (unit_of n)

abbrev pub units_by : List ℕ → Result Units Refusal
units_by ns = unless (any_above 3 ns) UnitTooGreat (units_of ns)

abbrev pub shifts_by : List ℕ → Result Shifts Refusal
shifts_by ns = unless (any_above 31 ns) ShiftTooGreat (shifts_of ns)

-- the row of an identifier that is in the table
abbrev pub row_of : rust.Option Row → Row
row_of (rust.Some r) = r
row_of rust.None = record { acceleration = false; inclination = false; temperatures = false; aux = false }

unfoldable pub sensor_of : Setup → Sensor
sensor_of u =
    record {
      identifier = u.identifier;
      row = row_of (row_at u.identifier);
      terminated = terminated u;
      rate = rate_of u.rate;
      units = units_of u.units;
      shifts = shifts_of u.shifts;
    }

-- refused as the setup is, else its sensor
unfoldable pub description_of : Setup → Result Sensor Refusal
description_of u = unless_refused (ruling_on u) (sensor_of u)

-- what each case says: the sensor, or the number of what refuses the setup
abbrev pub described_sensor : Result Sensor Refusal → Option Sensor
described_sensor (Ok s) = some s
described_sensor (Err e) = none

abbrev pub described_number : Result Sensor Refusal → Option ℕ
described_number (Ok s) = none
described_number (Err e) = some (number_of e)
