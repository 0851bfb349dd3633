-- `doubt::added` meets its contract. Assumes nothing.
use Rattle.doubt.specs.Doubt.{added}
use Rattle.doubt.proofs.added.Goals as goal

pub returns-then-first : goal.returns-then-first
unfolding added
returns-then-first c = rw c.if-first.true

pub returns : goal.returns
unfolding added
returns c = rw (c.elapsed.ensures, c.if-first.false)
