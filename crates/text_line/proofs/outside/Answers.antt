use Rattle.shown_line.specs.ShownLine.{outside}
use Rattle.text_line.proofs.outside.Goals as goal

pub returns : goal.returns
unfolding outside
returns c = rw (c.readings_fit.ensures, c.totals_within.ensures)
