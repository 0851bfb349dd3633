use Rattle.shown_line.specs.ShownLine.{readings_fit}
use Rattle.text_line.proofs.readings_fit.Goals as goal

pub returns : goal.returns
unfolding readings_fit
returns c = rw (c.row_fits.ensures, c.row_fits-2.ensures, c.row_fits-3.ensures)
