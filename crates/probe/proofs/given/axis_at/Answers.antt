-- `probe::given::axis_at` meets its contract. Assumes nothing.
use mir.Syntax.{w32, w64}
use Rattle.integers.proofs.Signed.{kept}
use Rattle.probe.specs.Records.{axis_at}
use Rattle.probe.proofs.given.axis_at.Goals as goal

pub returns : goal.returns
unfolding axis_at
returns c = rw (c.mark_at.ensures, kept w32 c.i32_at.type_inv c.i32_at.ensures, kept w64 c.i64_at.type_inv c.i64_at.ensures)
