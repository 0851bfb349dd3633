use native.Mathlib.Omega.{arith}
use Prim.Native.Nat.{◌+◌}
use mathlib.Core.Path.{refl}
use borrow.Author.Tests.{lt-ltb}
use Rattle.setup.specs.Layout.{counter, latency, parts_of, placed}
use Rattle.wire.specs.Fields.{contents_of}
use Rattle.wire.specs.Places.{fields_at}
use Rattle.wire.proofs.RowPlaces.{place_low, latency_at}
use Rattle.wire.proofs.FieldPlaces.{fields_placed}
use Rattle.wire.proofs.latency.Goals as goal

pub overflow_add-counter_place : goal.overflow_add-counter_place
overflow_add-counter_place c = omega (arith, c.counter_place.ensures, place_low c.args.row counter)

pub returns : goal.returns
unfolding contents_of fields_at
returns c =
    let r = c.args.row in
    let s = c.args.s.now in
    rw (fields_placed r s latency refl, latency_at r, lt-ltb 0 (placed (parts_of r) counter + 1) (omega arith))
    (rw (c.window.ensures, c.counter_place.ensures) at c.unsigned_of.ensures)
