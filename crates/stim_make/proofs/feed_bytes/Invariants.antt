use Prim.Native.Nat.{◌-◌}
use Rattle.stim_make.proofs.TakeLaws.{Front}
use lib.ListN.{length}
use Rattle.stim_make.proofs.feed_bytes.Given as goal

abbrev pub invariant-loop-at : goal.invariant-loop-at
invariant-loop-at g l = Front l.initial.line l.bytes l.line l.at

abbrev pub decreases-loop-at : goal.decreases-loop-at
decreases-loop-at g l = length l.bytes - l.at
