-- `crc::word_shifts` meets its contract, by the law of four look-ups.
-- Assumes nothing.
use mathlib.Core.Path.{sym}
use Rattle.crc.proofs.FourLookups.{four_lookups}
use Rattle.crc.proofs.word_shifts.Goals as goal

pub returns : goal.returns
returns c =
    rw (c.lowest_byte.ensures, c.lowest_byte-2.ensures, c.lowest_byte-3.ensures, c.lowest_byte-4.ensures)
    (sym (four_lookups c.args.c c.ranges.c.fits))
