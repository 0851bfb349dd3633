use mathlib.Core.Path.{◌≡◌}
use lib.ListN.{drop}
use Rattle.stim_bench.proofs.GatherLaws.{Gathering}
use Rattle.stim_bench.proofs.gather.Given as goal

-- the parts that are left are those of the bytes that weren't fed
abbrev pub invariant-loop-part : goal.invariant-loop-part
invariant-loop-part l =
    Gathering l.initial.session l.bytes l.initial.output l.output l.session l.taken l.used
    × (l.part-iterator.rest.now ≡ drop l.taken l.bytes)
    × (l.part-iterator.size ≡ 4096)
