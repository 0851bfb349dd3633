use lib.IntN.{ℤ, pos}
use lib.ListN.{get_or}
use mir.Syntax.{w32}
use Rattle.integers.specs.Bytes.{signed, unsigned}
use Rattle.integers.specs.Ranges.{is_zero, fits}
use Rattle.integers.proofs.Signed.{passed}
use Rattle.making.proofs.PartTests.{axes_fit, axes_zero}
use Rattle.making.specs.Writing.{size_of}
use Rattle.making.proofs.axes_outside.Goals as goal

pub returns-then-carried : goal.returns-then-carried
returns-then-carried c = let a = c.args in
    axes_fit (size_of a.width) a.row a.status c.if-carried.true
    (passed w32 (λ (z : ℤ). fits signed (size_of a.width) z) (get_or a.row 0 (pos 0)) (record { sfits = c.fits_axis-arg-1.given }) c.fits_axis.ensures)
    (passed w32 (λ (z : ℤ). fits signed (size_of a.width) z) (get_or a.row 1 (pos 0)) (record { sfits = c.fits_axis-arg-then-carried-1.given }) c.fits_axis-then-carried.ensures)
    (passed w32 (λ (z : ℤ). fits signed (size_of a.width) z) (get_or a.row 2 (pos 0)) (record { sfits = c.fits_axis-arg-then-carried-2-1.given }) c.fits_axis-then-carried-2.ensures)
    (passed w32 (λ (z : ℤ). fits unsigned 1 z) a.status c.ranges.status c.fits_byte.ensures)

pub returns : goal.returns
returns c = let a = c.args in
    axes_zero (size_of a.width) a.row a.status c.if-carried.false
    (passed w32 is_zero (get_or a.row 0 (pos 0)) (record { sfits = c.is_zero-arg-1.given }) c.is_zero.ensures)
    (passed w32 is_zero (get_or a.row 1 (pos 0)) (record { sfits = c.is_zero-arg-2-1.given }) c.is_zero-2.ensures)
    (passed w32 is_zero (get_or a.row 2 (pos 0)) (record { sfits = c.is_zero-arg-3-1.given }) c.is_zero-3.ensures)
    (passed w32 is_zero a.status c.ranges.status c.is_zero-4.ensures)
