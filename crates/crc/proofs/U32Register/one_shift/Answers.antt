-- A shift by the two cases of the top bit.
-- Assumes nothing.
use mathlib.Core.Path.{sym}
use lib.Dec.{lit≤}
use Rattle.crc.proofs.Laws.{shift_clear, shift_set}
use Rattle.crc.proofs.U32Register.one_shift.Goals as goal

pub returns-then-self-lt2147483648 : goal.returns-then-self-lt2147483648
returns-then-self-lt2147483648 c = sym (shift_clear 32 0x04C11DB7 (lit≤ tt) c.args.self c.if-self-lt2147483648.true)

pub returns-else-self-lt2147483648 : goal.returns-else-self-lt2147483648
returns-else-self-lt2147483648 c = sym (shift_set 32 0x04C11DB7 (lit≤ tt) c.args.self c.if-self-lt2147483648.false c.ranges.self.fits)
