use Rattle.setup_line.specs.SetupLine.{decimal_written}
use Rattle.setup_line.proofs.decimal_written.Goals as goal

pub returns-then-n-eq0 : goal.returns-then-n-eq0
unfolding decimal_written
returns-then-n-eq0 c = rw c.if-n-eq0.true

pub returns : goal.returns
unfolding decimal_written
returns c = rw c.all_digits.ensures
