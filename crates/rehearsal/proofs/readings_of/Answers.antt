use Rattle.rehearsal.specs.RehearsalLine.{axes_at, readings_in}
use mathlib.Core.Path.{◌≡◌}
use Rattle.rehearsal.proofs.readings_of.Goals as goal

pub returns : goal.returns
unfolding readings_in
returns c =
    let line = c.args.line.now in
    let gyro : c.axes_at.result ≡ axes_at line 4 = c.axes_at.ensures in
    let accelerometer : c.axes_at-2.result ≡ axes_at line 11 = c.axes_at-2.ensures in
    let inclinometer : c.axes_at-3.result ≡ axes_at line 18 = c.axes_at-3.ensures in
    rw (gyro, accelerometer, inclinometer)
