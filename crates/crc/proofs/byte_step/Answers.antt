-- `crc::byte_step` meets its contract, by that of `eight_shifts`.
-- Assumes nothing.
use lib.Dec.{lit≤}
use lib.Pow.{shl_exact}
use Rattle.crc.specs.Check.{byte_step}
use Rattle.crc.proofs.byte_step.Goals as goal

pub returns : goal.returns
unfolding byte_step
returns c = rw (← shl_exact 8 24 32 c.ranges.byte.fits (lit≤ tt)) c.eight_shifts.ensures
