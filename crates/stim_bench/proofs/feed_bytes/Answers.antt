-- `stim_bench::feed_bytes` meets its contract: each turn feeds the next bytes and writes out their lines. Assumes nothing.
use native.Mathlib.Omega.{arith}
use borrow.Author.Rules.{rules}
use Rattle.stim_bench.proofs.PartLaws.{front_none, front_feedable}
use Rattle.stim_bench.proofs.GatherLaws.{turned}
use Rattle.stim_bench.proofs.feed_bytes.Goals as goal

pub loop-at-init : goal.loop-at-init
loop-at-init g c = front_none c.args.start c.args.bytes.now c.requires (search rules)

pub gather-gathered-requires : goal.gather-gathered-requires
gather-gathered-requires g c =
    let v = c.loop-at in
    let F = front_feedable c.args.start c.args.bytes.now c.requires v.invariant in
    (record { sound = F.sound; room = omega (arith, F.room) }, search rules)

pub loop-at-preserved : goal.loop-at-preserved
loop-at-preserved g c =
    let turn = turned c.args.start c.args.bytes.now c.requires c.loop-at.invariant c.loop-at-test.true c.gather-gathered.ensures in
    turn.front
