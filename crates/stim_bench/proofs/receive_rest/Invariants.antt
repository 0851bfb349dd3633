use Rattle.stim_bench.specs.Bench.{HasLeft}
use Rattle.stim_bench.proofs.receive_rest.Given as goal

abbrev pub invariant-loop-count : goal.invariant-loop-count
invariant-loop-count g l = HasLeft l.session l.left

abbrev pub decreases-loop-count : goal.decreases-loop-count
decreases-loop-count g l = l.left
