use Rattle.rehearsal.specs.RehearsalLine.{field_written}
use Rattle.rehearsal.proofs.field_written.Goals as goal

pub returns : goal.returns
unfolding field_written
returns c = rw c.number_written.ensures
