use native.Mathlib.Omega.{arith}
use borrow.Author.Tests.{lt-ltb}
use Rattle.wire.specs.Places.{byte_at}
use Rattle.wire.proofs.byte_at.Goals as goal

pub returns-then-place-eq0 : goal.returns-then-place-eq0
unfolding byte_at
returns-then-place-eq0 c = rw c.if-place-eq0.true

pub returns : goal.returns
unfolding byte_at
returns c = rw (lt-ltb 0 c.args.place (omega arith)) c.byte_or_zero.ensures
