use Prim.Native.Nat.{ℕ}
use mathlib.Core.List.{List}
use mathlib.Core.Path.{◌≡◌, refl, ap}
use lib.ListN.{get_or}
use Rattle.setup.specs.Layout.{gyro, accelerometer, inclinometer, parts_of}
use Rattle.wire.specs.Fields.{fields_of_part, axes, contents_of}
use Rattle.wire.proofs.FieldPlaces.{axes_read}
use Rattle.wire.proofs.readings.Goals as goal

-- each group's readings are those of its own part
pub returns : goal.returns
unfolding contents_of
returns c =
    let r = c.args.row in
    let s = c.args.s.now in
    let places = c.group_places-places.ensures in
    let first : c.axes_at.result ≡ axes (fields_of_part (parts_of r) s gyro) =
    axes_read r s gyro refl 3 refl (ap (λ (ps : List ℕ). get_or ps 0 0) places) c.axes_at.ensures in
    let second : c.axes_at-2.result ≡ axes (fields_of_part (parts_of r) s accelerometer) =
    axes_read r s accelerometer refl 3 refl (ap (λ (ps : List ℕ). get_or ps 1 0) places) c.axes_at-2.ensures in
    let third : c.axes_at-3.result ≡ axes (fields_of_part (parts_of r) s inclinometer) =
    axes_read r s inclinometer refl 3 refl (ap (λ (ps : List ℕ). get_or ps 2 0) places) c.axes_at-3.ensures in
    rw (first, second, third)
