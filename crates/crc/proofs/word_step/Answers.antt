-- `crc::word_step` meets its contract: the wide register moves as the one that it stands for.
-- Assumes nothing.
use mathlib.Core.Path.{ap, ◌∙◌}
use lib.Bits.{bit_xor}
use Rattle.crc.specs.Check.{shifts}
use Rattle.crc.specs.Wide.{wide_polynomial, remainder}
use Rattle.crc.proofs.FourBytes.{wide_four}
use Rattle.crc.proofs.word_step.Goals as goal

pub returns : goal.returns
returns c =
    let a = c.args in
    let f = c.ranges in
    ap remainder (c.word_shifts.ensures ∙ ap (λ n. shifts 64 wide_polynomial 32 (bit_xor a.c n)) c.from_be_bytes.ensures)
    ∙ wide_four a.first a.second a.third a.fourth f.first.fits f.second.fits f.third.fits f.fourth.fits a.c f.c.fits
