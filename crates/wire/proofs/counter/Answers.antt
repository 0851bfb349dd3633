use native.Mathlib.Omega.{arith}
use mathlib.Core.Path.{refl}
use Rattle.setup.specs.Layout.{counter}
use Rattle.wire.specs.Fields.{contents_of}
use Rattle.wire.proofs.FieldPlaces.{byte_placed}
use Rattle.wire.proofs.counter.Goals as goal

pub returns : goal.returns
unfolding contents_of
returns c =
    let r = c.args.row in
    let s = c.args.s.now in
    rw (byte_placed r s counter 0 refl (omega arith) refl) (rw c.counter_place.ensures at c.byte_at.ensures)
