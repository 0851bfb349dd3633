-- `crc::remainder_of` meets its contract: four times eight shifts are 32.
-- Assumes nothing.
use Rattle.crc.specs.Check.{shifts}
use Rattle.crc.specs.Wide.{remainder}
use Rattle.crc.proofs.remainder_of.Goals as goal

pub returns : goal.returns
unfolding remainder shifts
returns c =
    rw (c.eight_shifts-3.ensures, c.eight_shifts-2.ensures, c.eight_shifts-halfway.ensures, c.eight_shifts.ensures)
