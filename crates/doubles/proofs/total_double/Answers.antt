use Prim.Native.Nat.{◌^◌}
use mathlib.Core.Path.{sym, ◌∙◌}
use native.Mathlib.Omega.{arith}
use lib.Ieee.{of_bits}
use mir.Syntax.{w64}
use mir.Val.{SFits}
use mir.ValLaws.{to_z-of_z}
use Rattle.integers.specs.Ranges.{within}
use Rattle.integers.proofs.Ranges.{within_true}
use Rattle.integers.proofs.Signed.{passed}
use Rattle.doubles.specs.Doubles.{total_double}
use Rattle.doubles.proofs.total_double.Goals as goal

pub over_power-requires : goal.over_power-requires
over_power-requires c =
    let z = c.args.axis.total in
    let f : SFits w64 z = record { sfits = omega arith } in
    let told = passed w64 (within (2 ^ 53)) z f c.fits_total.ensures in
    rw (to_z-of_z w64 z f) (within_true (2 ^ 53) z (sym told ∙ c.if-fits_total.true))

pub returns-then-fits_total : goal.returns-then-fits_total
unfolding total_double
returns-then-fits_total c =
    let z = c.args.axis.total in
    let f : SFits w64 z = record { sfits = omega arith } in
    let told = passed w64 (within (2 ^ 53)) z f c.fits_total.ensures in
    rw (← told, c.if-fits_total.true, c.over_power.ensures, to_z-of_z w64 z f)

pub returns-else-fits_total : goal.returns-else-fits_total
unfolding total_double of_bits
returns-else-fits_total c =
    let z = c.args.axis.total in
    let f : SFits w64 z = record { sfits = omega arith } in
    let told = passed w64 (within (2 ^ 53)) z f c.fits_total.ensures in
    rw (← told, c.if-fits_total.false)
