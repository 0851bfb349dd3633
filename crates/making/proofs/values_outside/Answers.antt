use mir.Val.{SFits}
use mir.ValLaws.{to_z-of_z}
use native.Mathlib.Omega.{arith}
use lib.IntN.{ℤ}
use mir.Syntax.{w32}
use Rattle.integers.specs.Bytes.{unsigned}
use Rattle.integers.specs.Ranges.{fits}
use Rattle.integers.proofs.Signed.{passed}
use Rattle.making.proofs.PartTests.{all_tests}
use Rattle.making.proofs.values_outside.Goals as goal

pub returns : goal.returns
returns c = let a = c.args in
    let v = a.values in
    let value : SFits w32 v.aux = record { sfits = omega arith } in
    let status : SFits w32 v.aux_status = record { sfits = omega arith } in
    let number : SFits w32 v.counter = record { sfits = omega arith } in
    let late : SFits w32 v.latency = record { sfits = omega arith } in
    rw (
      c.groups_outside.ensures,
      c.temperatures_outside.ensures,
      c.aux_outside.ensures,
      to_z-of_z w32 v.aux value,
      to_z-of_z w32 v.aux_status status,
      passed w32 (λ (z : ℤ). fits unsigned 1 z) v.counter number c.fits_byte.ensures,
      passed w32 (λ (z : ℤ). fits unsigned 2 z) v.latency late c.fits_latency.ensures,
    )
    (all_tests 0 a.row a.readings v)
