-- `stim_make::feed_bytes` meets its contract: each turn takes the next bytes and writes out their datagrams. Assumes nothing.
use Rattle.stim_make.proofs.TakeLaws.{front_none, turned}
use borrow.Author.Rules.{rules}
use Rattle.stim_make.proofs.feed_bytes.Goals as goal

pub loop-at-init : goal.loop-at-init
loop-at-init g c = front_none c.args.start c.args.bytes.now c.args.start.kept (search rules)

pub loop-at-preserved : goal.loop-at-preserved
loop-at-preserved g c =
    let turn = turned c.args.accepted.setup c.args.start c.args.bytes.now c.loop-at.invariant c.loop-at-test.true c.gather-gathered.ensures in
    turn.front
