use Rattle.printed_value.proofs.Nearest.{nearest_up, nearest_stays}
use Rattle.printing.proofs.nearest.Goals as goal

pub returns-then-b-twice : goal.returns-then-b-twice
returns-then-b-twice c = nearest_up c.args.a c.args.b c.if-b-twice.true

pub returns-else-b-twice : goal.returns-else-b-twice
returns-else-b-twice c = nearest_stays c.args.a c.args.b c.if-b-twice.false
