use native.Mathlib.Omega.{arith}
use mir.Syntax.{w32}
use Rattle.integers.proofs.Signed.{kept}
use Rattle.integers.specs.Bytes.{big_endian, twos_complement, signed_bytes}
use Rattle.wire.specs.Places.{fields_at, size_of}
use Rattle.wire.proofs.FieldPlaces.{axes_placed}
use Rattle.wire.proofs.axes_at.Goals as goal

pub returns-then-place-eq0 : goal.returns-then-place-eq0
unfolding fields_at signed_bytes twos_complement big_endian
returns-then-place-eq0 c = rw c.if-place-eq0.true

pub returns : goal.returns
returns c =
    let s = c.args.s.now in
    let place = c.args.place in
    let width = size_of c.args.width in
    rw (
      axes_placed width place s (omega arith),
      kept w32 c.signed_at.type_inv c.signed_at.ensures,
      kept w32 c.signed_at-2.type_inv c.signed_at-2.ensures,
      kept w32 c.signed_at-3.type_inv c.signed_at-3.ensures,
      c.size_of-size.ensures,
    )
