use borrow.Author.Tests.{eq-eqb, ne_eqb}
use Rattle.setup_line.specs.SetupLine.{identifier_written}
use Rattle.setup_line.proofs.identifier_written.Goals as goal

pub returns-then-text-ne2 : goal.returns-then-text-ne2
unfolding identifier_written
returns-then-text-ne2 c = rw (ne_eqb _ _ c.if-text-ne2.true)

pub returns : goal.returns
unfolding identifier_written
returns c = rw (eq-eqb _ _ c.if-text-ne2.false, c.is_hex_digit.ensures, c.is_hex_digit-2.ensures)
