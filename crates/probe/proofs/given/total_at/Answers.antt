-- `probe::given::total_at` meets its contract. Assumes nothing.
use mir.Syntax.{w64}
use Rattle.integers.proofs.Signed.{kept}
use Rattle.probe.specs.Records.{total_at}
use Rattle.probe.proofs.given.total_at.Goals as goal

pub returns : goal.returns
unfolding total_at
returns c = rw (c.mark_at.ensures, kept w64 c.i64_at.type_inv c.i64_at.ensures)
