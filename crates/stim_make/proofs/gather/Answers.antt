-- `stim_make::gather` meets its contract: each line's datagram comes behind those of the lines before it. Assumes nothing.
use Rattle.stim_make.proofs.TakeLaws.{gathering_none, gathering_more, gathering_some, gathered}
use borrow.Author.Rules.{rules}
use native.Mathlib.Omega.{arith}
use Rattle.stim_make.proofs.gather.Goals as goal

pub loop-at-init : goal.loop-at-init
loop-at-init g c =
    gathering_none c.args.accepted.setup c.args.start c.args.bytes.now c.args.output.now c.args.start.kept (search rules)

-- what the turn leaves
pub loop-at-preserved : goal.loop-at-preserved
loop-at-preserved g c =
    let t = c.take_line-step in
    gathering_more c.args.accepted.setup c.args.start c.args.bytes.now c.args.output.now c.loop-at.invariant c.loop-at-test.true t.ensures t.auto.output

pub returns-else-output-made-ge-ENOUGH : goal.returns-else-output-made-ge-ENOUGH
returns-else-output-made-ge-ENOUGH g c =
    let G = c.loop-at.invariant in
    gathered c.args.accepted.setup c.args.start c.args.bytes.now c.args.output.now G (λ h. gathering_some c.args.accepted.setup c.args.start c.args.bytes.now c.args.output.now G c.requires c.if-output-made-ge-ENOUGH.false)

pub returns-after-loop-at : goal.returns-after-loop-at
returns-after-loop-at g c =
    gathered c.args.accepted.setup c.args.start c.args.bytes.now c.args.output.now c.loop-at.invariant (λ h. omega (arith, c.loop-at-test.false))
