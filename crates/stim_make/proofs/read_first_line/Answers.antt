-- `stim_make::read_first_line` meets its contract: the line ends among the bytes that came. Assumes nothing.
use Rattle.setup_line.proofs.LineEnds.{end_by}
use lib.Seq.{length-take-le}
use mathlib.Core.Path.{sym}
use Rattle.stim_make.proofs.read_first_line.Goals as goal

pub slice_bounds-keep-end : goal.slice_bounds-keep-end
slice_bounds-keep-end g c = sym (length-take-le c.line_end-end.result _ (end_by _ c.line_end-end.ensures).1)
