-- `crc::lowest_byte` meets its contract, by that of `eight_shifts`.
-- Assumes nothing.
use mathlib.Core.Path.{ap, ◌∙◌}
use Rattle.crc.specs.Check.{shifts}
use Rattle.crc.specs.Wide.{wide_polynomial}
use Rattle.crc.proofs.Laws.{shifted_mod}
use Rattle.crc.proofs.lowest_byte.Goals as goal

pub returns : goal.returns
returns c = c.eight_shifts.ensures ∙ ap (shifts 64 wide_polynomial 8) (shifted_mod c.args.c 8 56)
