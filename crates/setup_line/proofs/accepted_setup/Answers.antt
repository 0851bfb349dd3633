use borrow.Author.Tests.{ne_eqb}
use Rattle.setup_line.proofs.LineAnswers.{accepted_in_turn}
use Rattle.setup_line.proofs.accepted_setup.Goals as goal

pub returns-then-field_count-ne9 : goal.returns-then-field_count-ne9
returns-then-field_count-ne9 c = rw (accepted_in_turn c.args.line.now, c.if-n.false, ← c.field_count.ensures, ne_eqb _ _ c.if-field_count-ne9.true)
