-- `stim_bench::run` meets its contract: the line ends within the bytes that were read, and what it opens and where the stream begins is passed on. Assumes nothing.
use Rattle.setup_line.proofs.LineEnds.{end_by}
use mathlib.Core.Path.{◌≡◌, sym}
use native.Mathlib.Omega.{arith}
use lib.ListN.{length, take}
use lib.Seq.{length-take-le}
use Rattle.stim_bench.proofs.LineLaws.{line_answer_lem, line_opens}
use Rattle.stim_bench.proofs.run.Goals as goal

pub slice_bounds-read_line-end : goal.slice_bounds-read_line-end
slice_bounds-read_line-end g c = sym (length-take-le c.line_end-end.result _ (end_by _ c.line_end-end.ensures).1)

pub refuse_line-requires : goal.refuse_line-requires
refuse_line-requires g c = let e = c.line_end-end in line_answer_lem _ e.result e.ensures c.read_line-line.ensures c.in-Err.is

pub overflow_add-end : goal.overflow_add-end
overflow_add-end g c =
    omega (arith, (end_by _ c.line_end-end.ensures).1, length-take-le c.in_ok-filled.filled c.read_first_bytes.new.input c.in_ok-filled.ensures, c.read_first_bytes.array_long)

pub receive-requires : goal.receive-requires
receive-requires g c =
    let filled = c.in_ok-filled.filled in
    let input = c.read_first_bytes.new.input in
    let e = c.line_end-end in
    let long : length (take filled input) ≡ filled = length-take-le filled input c.in_ok-filled.ensures in
    record {
      from_le_filled = (omega (arith, long, (end_by _ e.ensures).1, c.if-end-filled.false), c.in_ok-filled.ensures, omega (arith, c.in_ok-filled.ensures, c.read_first_bytes.array_long));
      opens = line_opens (take filled input) e.result e.ensures c.read_line-line.ensures (omega (arith, long, (end_by _ e.ensures).1, c.if-end-filled.false))
          c.in_default.is c.open-opened.ensures;
    }
