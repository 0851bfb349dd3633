-- A shift by the two cases of the top bit.
-- Assumes nothing.
use mathlib.Core.Path.{sym}
use lib.Dec.{lit≤}
use Rattle.crc.specs.Wide.{wide_polynomial}
use Rattle.crc.proofs.Laws.{shift_clear, shift_set}
use Rattle.crc.proofs.U64Register.one_shift.Goals as goal

pub returns-then-self-lt9223372036854775808 : goal.returns-then-self-lt9223372036854775808
returns-then-self-lt9223372036854775808 c = sym (shift_clear 64 wide_polynomial (lit≤ tt) c.args.self c.if-self-lt9223372036854775808.true)

pub returns-else-self-lt9223372036854775808 : goal.returns-else-self-lt9223372036854775808
returns-else-self-lt9223372036854775808 c = sym (shift_set 64 wide_polynomial (lit≤ tt) c.args.self c.if-self-lt9223372036854775808.false c.ranges.self.fits)
