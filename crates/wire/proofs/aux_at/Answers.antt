use native.Mathlib.Omega.{arith}
use mir.Syntax.{w32}
use Rattle.integers.proofs.Signed.{kept}
use borrow.Author.Tests.{lt-ltb}
use Rattle.integers.specs.Bytes.{big_endian, twos_complement, signed_bytes}
use Rattle.wire.specs.Places.{fields_at}
use Rattle.wire.proofs.aux_at.Goals as goal

pub returns-then-place-eq0 : goal.returns-then-place-eq0
unfolding fields_at signed_bytes twos_complement big_endian
returns-then-place-eq0 c = rw c.if-place-eq0.true

pub returns : goal.returns
unfolding fields_at
returns c = rw (lt-ltb 0 c.args.place (omega arith), kept w32 c.signed_at.type_inv c.signed_at.ensures)
