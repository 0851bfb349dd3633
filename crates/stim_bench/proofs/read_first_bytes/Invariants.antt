use Prim.Native.Nat.{◌-◌, ◌≤◌}
use mathlib.Core.Path.{◌≡◌}
use lib.ListN.{length}
use Rattle.stim_bench.proofs.read_first_bytes.Given as goal

abbrev pub invariant-loop-filled : goal.invariant-loop-filled
invariant-loop-filled g l =
    (l.filled ≤ length l.input) × (65 ≤ length l.input) × (length l.input ≡ length l.initial.input)

abbrev pub decreases-loop-filled : goal.decreases-loop-filled
decreases-loop-filled g l = 65 - l.filled
