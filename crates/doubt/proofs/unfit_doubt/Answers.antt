-- `doubt::unfit_doubt` meets its contract. Assumes nothing.
use Rattle.doubt.specs.Doubt.{unfit_doubt}
use Rattle.doubt.proofs.unfit_doubt.Goals as goal

pub returns-then-not-begun : goal.returns-then-not-begun
unfolding unfit_doubt
returns-then-not-begun c = rw (c.if-not-begun.true)

pub returns : goal.returns
unfolding unfit_doubt
returns c = rw (c.sum_with.ensures, c.if-not-begun.false)
