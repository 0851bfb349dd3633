use Prim.Native.Nat.{◌-◌}
use lib.ListN.{length}
use mathlib.Core.Path.{◌≡◌}
use Rattle.stim_make.proofs.read_first_line.Given as goal

abbrev pub invariant-loop-line : goal.invariant-loop-line
invariant-loop-line g l = length l.line.bytes ≡ 513

abbrev pub decreases-loop-line : goal.decreases-loop-line
decreases-loop-line g l = 65 - l.line.used
