-- `doubt::axis_step` meets its contract. Assumes nothing.
use Rattle.doubt.specs.Doubt.{doubt_step}
use Rattle.doubt.proofs.axis_step.Goals as goal

pub returns-then-fit : goal.returns-then-fit
unfolding doubt_step
returns-then-fit c = rw (c.fit_doubt.ensures, c.if-fit.true)

pub returns : goal.returns
unfolding doubt_step
returns c = rw (c.unfit_doubt.ensures, c.if-fit.false)
