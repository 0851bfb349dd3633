-- `doubt::fit_doubt` meets its contract. Assumes nothing.
use Rattle.doubt.specs.Doubt.{fit_doubt}
use Rattle.doubt.proofs.fit_doubt.Goals as goal

pub returns : goal.returns
unfolding fit_doubt
returns c = rw (c.marks.ensures, c.sum_with-sum.ensures)
