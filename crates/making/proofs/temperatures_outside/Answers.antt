use mathlib.Core.Bool.{◌&&◌}
use lib.IntN.{pos}
use lib.ListN.{get_or}
use mir.Syntax.{w32}
use Rattle.integers.proofs.Signed.{passed}
use Rattle.making.specs.Writing.{axes_outside, temperatures_outside}
use Rattle.making.proofs.temperatures_outside.Goals as goal

pub returns : goal.returns
unfolding temperatures_outside
returns c = let a = c.args in
    rw (
      passed w32 (axes_outside a.row.temperatures 2 a.values.gyro_temperatures) (get_or a.values.temperature_statuses 0 (pos 0)) (record { sfits = c.axes_outside-arg-1.given }) c.axes_outside.ensures,
      passed w32 (axes_outside (a.row.temperatures && a.row.acceleration) 2 a.values.accelerometer_temperatures) (get_or a.values.temperature_statuses 1 (pos 0)) (record { sfits = c.axes_outside-arg-2-1.given }) c.axes_outside-2.ensures,
      passed w32 (axes_outside (a.row.temperatures && a.row.inclination) 2 a.values.inclinometer_temperatures) (get_or a.values.temperature_statuses 2 (pos 0)) (record { sfits = c.axes_outside-arg-3-1.given }) c.axes_outside-3.ensures,
    )
