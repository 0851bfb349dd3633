-- `probe::given::values_of` meets its contract. Assumes nothing.
use mir.Syntax.{w32}
use Rattle.integers.proofs.Signed.{kept}
use Rattle.probe.specs.Records.{values_in}
use Rattle.probe.proofs.given.values_of.Goals as goal

pub returns : goal.returns
unfolding values_in
returns c = rw (
  c.row_at-statuses.ensures,
  c.row_at-gyro.ensures,
  c.row_at-accelerometer.ensures,
  c.row_at-inclinometer.ensures,
  c.row_at-temperature_statuses.ensures,
  kept w32 c.i32_at.type_inv c.i32_at.ensures,
  kept w32 c.i32_at-2.type_inv c.i32_at-2.ensures,
  kept w32 c.i32_at-3.type_inv c.i32_at-3.ensures,
  kept w32 c.i32_at-4.type_inv c.i32_at-4.ensures,
)
