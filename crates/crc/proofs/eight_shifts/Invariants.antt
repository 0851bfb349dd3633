use Rattle.crc.proofs.ByteLoop.{EightLeft}
use Rattle.crc.proofs.eight_shifts.Given as goal

abbrev pub invariant-loop : goal.invariant-loop
invariant-loop g l = let r = g.R.Register in EightLeft r.width r.polynomial (r.number l.initial.x) (r.number l.x) l.counter
