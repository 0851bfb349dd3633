-- `probe::given::group_totals_at` meets its contract. Assumes nothing.
use Rattle.probe.specs.Records.{group_totals_at}
use Rattle.probe.proofs.given.group_totals_at.Goals as goal

pub returns : goal.returns
unfolding group_totals_at
returns c = rw (c.total_at.ensures, c.total_at-2.ensures, c.total_at-3.ensures)
