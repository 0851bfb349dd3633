-- `probe::given::doubt_at` meets its contract. Assumes nothing.
use Rattle.probe.specs.Records.{doubt_at}
use Rattle.probe.proofs.given.doubt_at.Goals as goal

pub returns : goal.returns
unfolding doubt_at
returns c = rw (c.u32_at.ensures, c.mark_at.ensures)
