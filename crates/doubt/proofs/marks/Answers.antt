-- `doubt::marks` meets its contract. Assumes nothing.
use Rattle.doubt.specs.Doubt.{marks}
use Rattle.doubt.proofs.marks.Goals as goal

pub returns : goal.returns
unfolding marks
returns c = rw c.is_trigger.ensures
