use Rattle.integers.proofs.Signed.{kept}
use Rattle.rehearsal.specs.RehearsalLine.{value_at, axes_at, values_in}
use mathlib.Core.Path.{◌≡◌}
use mir.Syntax.{w32}
use mir.Val.{to_z, of_z}
use Rattle.rehearsal.proofs.values_of.Goals as goal

pub returns : goal.returns
unfolding values_in
returns c =
    let line = c.args.line.now in
    let gyro : to_z w32 (of_z w32 c.value_at.result) ≡ value_at line 7 = kept w32 c.value_at.type_inv c.value_at.ensures in
    let accelerometer : to_z w32 (of_z w32 c.value_at-2.result) ≡ value_at line 14 = kept w32 c.value_at-2.type_inv c.value_at-2.ensures in
    let inclinometer : to_z w32 (of_z w32 c.value_at-3.result) ≡ value_at line 21 = kept w32 c.value_at-3.type_inv c.value_at-3.ensures in
    let gyroSet : c.axes_at.result ≡ axes_at line 25 = c.axes_at.ensures in
    let accelerometerSet : c.axes_at-2.result ≡ axes_at line 29 = c.axes_at-2.ensures in
    let inclinometerSet : c.axes_at-3.result ≡ axes_at line 33 = c.axes_at-3.ensures in
    let gyroSetStatus : to_z w32 (of_z w32 c.value_at-4.result) ≡ value_at line 28 = kept w32 c.value_at-4.type_inv c.value_at-4.ensures in
    let accelerometerSetStatus : to_z w32 (of_z w32 c.value_at-5.result) ≡ value_at line 32 = kept w32 c.value_at-5.type_inv c.value_at-5.ensures in
    let inclinometerSetStatus : to_z w32 (of_z w32 c.value_at-6.result) ≡ value_at line 36 = kept w32 c.value_at-6.type_inv c.value_at-6.ensures in
    let aux : to_z w32 (of_z w32 c.value_at-7.result) ≡ value_at line 37 = kept w32 c.value_at-7.type_inv c.value_at-7.ensures in
    let aux_status : to_z w32 (of_z w32 c.value_at-8.result) ≡ value_at line 38 = kept w32 c.value_at-8.type_inv c.value_at-8.ensures in
    let counter : to_z w32 (of_z w32 c.value_at-9.result) ≡ value_at line 1 = kept w32 c.value_at-9.type_inv c.value_at-9.ensures in
    let latency : to_z w32 (of_z w32 c.value_at-10.result) ≡ value_at line 2 = kept w32 c.value_at-10.type_inv c.value_at-10.ensures in
    rw (gyro, accelerometer, inclinometer, gyroSet, accelerometerSet, inclinometerSet, gyroSetStatus)
    (rw (accelerometerSetStatus, inclinometerSetStatus, aux, aux_status, counter, latency))
