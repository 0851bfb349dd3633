use native.Mathlib.Omega.{arith}
use mathlib.Core.Path.{refl}
use Rattle.setup.specs.Layout.{gyro, accelerometer, inclinometer}
use Rattle.wire.specs.Fields.{contents_of}
use Rattle.wire.proofs.FieldPlaces.{byte_placed}
use Rattle.wire.proofs.statuses.Goals as goal

pub returns : goal.returns
unfolding contents_of
returns c =
    let r = c.args.row in
    let s = c.args.s.now in
    rw (
      byte_placed r s gyro 3 refl (omega arith) refl,
      byte_placed r s accelerometer 3 refl (omega arith) refl,
      byte_placed r s inclinometer 3 refl (omega arith) refl,
    )
    (rw c.group_places.ensures at c.bytes_at.ensures)
