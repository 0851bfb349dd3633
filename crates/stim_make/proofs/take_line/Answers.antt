-- `stim_make::take_line` meets its contract: the bytes up to the end of the line belong to it. Assumes nothing.
use Rattle.setup_line.proofs.LineEnds.{end_by}
use Rattle.stim_make.proofs.TakeLaws.{taken_none, taken_line}
use borrow.Author.Rules.{rules}
use lib.Seq.{length-take-le}
use mathlib.Core.Path.{sym, ◌∙◌}
use Rattle.stim_make.proofs.take_line.Goals as goal
use Rattle.stim_make.proofs.take_line.Goals.{After-keep-line}

pub slice_bounds-keep-end : goal.slice_bounds-keep-end
slice_bounds-keep-end g c = sym (length-take-le c.line_end-end.result c.args.bytes.now (end_by _ c.line_end-end.ensures).1)

pub returns-then-end-bytes : goal.returns-then-end-bytes
returns-then-end-bytes g c =
    let e = end_by _ c.line_end-end.ensures in
    let k = c.keep-line.ensures in
    taken_none c.args.accepted.setup c.args.start c.args.bytes.now c.args.output.now e.0 k.0 k.1 c.if-end-bytes.true

pub overflow_add-next : goal.overflow_add-next
overflow_add-next g c = let e = (end_by _ c.line_end-end.ensures).1 in search rules

pub returns : goal.returns
returns g c =
    let e = end_by _ c.line_end-end.ensures in
    let k = c.keep-line.ensures in
    taken_line c.args.accepted.setup c.args.start c.args.bytes.now c.args.output.now e.0 k.0 k.1 e.1 c.if-end-bytes.false c.make_line-made.ensures.answer c.make_line-made.ensures.written c.begun.ensures.0 (c.begun.ensures.1 ∙ c.next_number.ensures)
