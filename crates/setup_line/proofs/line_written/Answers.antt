use Rattle.setup_line.specs.SetupLine.{line_written}
use Rattle.setup_line.proofs.line_written.Goals as goal

pub returns : goal.returns
unfolding line_written
returns c = rw (c.decimal_field.ensures, c.identifier_written-identifier.ensures, c.field.ensures, c.decimal_field-2.ensures, c.three_written.ensures, c.three_written-2.ensures)
