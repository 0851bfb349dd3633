-- The laws of the loop hold of any register.
-- Assumes nothing.
use Rattle.crc.proofs.ByteLoop.{eight_start, eight_next, eight_end}
use Rattle.crc.proofs.eight_shifts.Goals as goal

pub loop-init : goal.loop-init
loop-init g c = let r = g.R.Register in eight_start r.width r.polynomial (r.number c.args.c)

pub loop-preserved : goal.loop-preserved
loop-preserved g c = eight_next c.loop.invariant c.loop-test.true c.one_shift-x.ensures

pub returns : goal.returns
returns g c = eight_end c.loop.invariant c.loop-test.false
