use mathlib.Core.Path.{sym}
use native.Mathlib.Omega.{arith}
use lib.Seq.{length-take-le}
use Rattle.integers.proofs.Buffers.{put_taken}
use Rattle.text_line.proofs.write_apart.Goals as goal

pub slice_bounds-copy_line-end : goal.slice_bounds-copy_line-end
slice_bounds-copy_line-end c =
    let p = c.put_line-n in
    sym (length-take-le p.result p.new.buffer (omega (arith, p.ensures.place, p.auto.buffer, c.requires)))

pub returns-clause-answer : goal.returns-clause-answer
returns-clause-answer c = rw (put_taken c.put_line-n.ensures c.requires) at c.copy_line.ensures.answer

pub returns-clause-written : goal.returns-clause-written
returns-clause-written c = rw (put_taken c.put_line-n.ensures c.requires) at c.copy_line.ensures.written
