-- `probe::given::group_axes_at` meets its contract. Assumes nothing.
use Rattle.probe.specs.Records.{group_axes_at}
use Rattle.probe.proofs.given.group_axes_at.Goals as goal

pub returns : goal.returns
unfolding group_axes_at
returns c = rw (c.axis_at.ensures, c.axis_at-2.ensures, c.axis_at-3.ensures)
