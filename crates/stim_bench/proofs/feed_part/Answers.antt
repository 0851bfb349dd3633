-- `stim_bench::feed_part` meets its contract: no number refuses the part. Assumes nothing.
use mathlib.Core.Path.{◌∙◌}
use Rattle.stim_bench.proofs.PartLaws.{part_written, part_fed, part_accepted}
use Rattle.stim_bench.proofs.feed_part.Goals as goal

pub returns-in-Ok-clause-answer : goal.returns-in-Ok-clause-answer
returns-in-Ok-clause-answer c =
    let a = c.args in
    part_fed a.session a.part.now a.output.now c.requires.0 c.requires.1 c.requires.2 c.receive_lines-batch.ensures.answer c.in-Ok.is

pub returns-in-Ok-clause-written : goal.returns-in-Ok-clause-written
returns-in-Ok-clause-written c =
    let a = c.args in
    c.receive_lines-batch.ensures.written ∙ part_written a.session a.part.now a.output.now c.requires.0 c.requires.1 c.requires.2

pub returns-in-Err-clause-answer : goal.returns-in-Err-clause-answer
returns-in-Err-clause-answer c =
    let a = c.args in
    absurd (part_accepted a.session a.part.now a.output.now c.requires.0 c.requires.1 c.requires.2 c.receive_lines-batch.ensures.answer c.in-Err.is)

pub returns-in-Err-clause-written : goal.returns-in-Err-clause-written
returns-in-Err-clause-written c =
    let a = c.args in
    absurd (part_accepted a.session a.part.now a.output.now c.requires.0 c.requires.1 c.requires.2 c.receive_lines-batch.ensures.answer c.in-Err.is)
