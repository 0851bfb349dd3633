-- `probe::given::totals_of` meets its contract. Assumes nothing.
use Rattle.probe.specs.Records.{totals_in}
use Rattle.probe.proofs.given.totals_of.Goals as goal

pub returns : goal.returns
unfolding totals_in
returns c = rw (c.group_totals_at.ensures, c.group_totals_at-2.ensures, c.group_totals_at-3.ensures)
