use lib.IntN.{ℤ}
use mir.Syntax.{w32}
use Rattle.integers.specs.Bytes.{signed, unsigned}
use Rattle.integers.specs.Ranges.{is_zero, fits}
use Rattle.integers.proofs.Signed.{passed}
use Rattle.making.proofs.PartTests.{aux_fit, aux_zero}
use Rattle.making.proofs.aux_outside.Goals as goal

pub returns-then-carried : goal.returns-then-carried
returns-then-carried c = let s = c in
    aux_fit s.args.value s.args.status c.if-carried.true (passed w32 (λ (z : ℤ). fits signed 3 z) s.args.value s.ranges.value c.fits_reading.ensures)
    (passed w32 (λ (z : ℤ). fits unsigned 1 z) s.args.status s.ranges.status c.fits_byte.ensures)

pub returns : goal.returns
returns c = let s = c in
    aux_zero s.args.value s.args.status c.if-carried.false (passed w32 is_zero s.args.value s.ranges.value c.is_zero.ensures)
    (passed w32 is_zero s.args.status s.ranges.status c.is_zero-2.ensures)
