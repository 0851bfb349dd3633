use Rattle.setup_line.specs.SetupLine.{identifier_value}
use Rattle.setup_line.proofs.identifier_value.Goals as goal

pub returns : goal.returns
unfolding identifier_value
returns c = rw (c.digit_value.ensures, c.digit_value-2.ensures)
