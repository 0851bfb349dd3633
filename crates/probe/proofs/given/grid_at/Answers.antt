-- `probe::given::grid_at` meets its contract. Assumes nothing.
use Rattle.probe.specs.Records.{grid_at}
use Rattle.probe.proofs.given.grid_at.Goals as goal

pub returns : goal.returns
unfolding grid_at
returns c = rw (c.row_at.ensures, c.row_at-2.ensures, c.row_at-3.ensures)
