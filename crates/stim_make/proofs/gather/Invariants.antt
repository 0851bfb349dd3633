use Prim.Native.Nat.{◌-◌}
use Rattle.stim_make.proofs.TakeLaws.{Gathering}
use lib.ListN.{length}
use Rattle.stim_make.proofs.gather.Given as goal

abbrev pub invariant-loop-at : goal.invariant-loop-at
invariant-loop-at g l = Gathering l.accepted.setup l.initial.line l.bytes l.initial.output l.output l.line l.at l.made

abbrev pub decreases-loop-at : goal.decreases-loop-at
decreases-loop-at g l = length l.bytes - l.at
