use Prim.Native.Nat.{◌-◌}
use lib.ListN.{length}
use Rattle.lines.proofs.LoopInvariant.{Invariant}
use Rattle.lines.proofs.Receiving.lines_from.Given as goal

abbrev pub invariant-loop-going : goal.invariant-loop-going
invariant-loop-going l = Invariant l.self.session.setup l.initial.going l.piece l.initial.buffer l.going l.buffer

abbrev pub decreases-loop-going : goal.decreases-loop-going
decreases-loop-going l = length l.piece - l.going.at
