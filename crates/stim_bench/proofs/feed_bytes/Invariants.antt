use Prim.Native.Nat.{◌-◌}
use lib.ListN.{length}
use Rattle.stim_bench.proofs.PartLaws.{Front}
use Rattle.stim_bench.proofs.feed_bytes.Given as goal

abbrev pub invariant-loop-at : goal.invariant-loop-at
invariant-loop-at g l = Front l.initial.session l.bytes l.session l.at

abbrev pub decreases-loop-at : goal.decreases-loop-at
decreases-loop-at g l = length l.bytes - l.at
