use native.Mathlib.Omega.{arith}
use mir.Syntax.{w32}
use Rattle.integers.proofs.Signed.{kept}
use Prim.Native.Nat.{ℕ}
use mathlib.Core.List.{List}
use mathlib.Core.Path.{◌≡◌, refl, ap, ◌∙◌}
use lib.ListN.{get_or}
use Rattle.setup.specs.Layout.{gyro_temperatures, accelerometer_temperatures, inclinometer_temperatures, aux, parts_of}
use Rattle.wire.specs.Fields.{fields_of_part, axes, contents_of}
use Rattle.wire.proofs.FieldPlaces.{fields_placed, byte_placed, axes_read, byte_read}
use Rattle.wire.proofs.fields_of.Goals as goal

-- each set of temperatures, each status and AUX are those of their own part
pub returns : goal.returns
unfolding contents_of
returns c =
    let r = c.args.row in
    let s = c.args.s.now in
    let places = c.temperature_places-places.ensures in
    let aux-here = c.aux_place-aux.ensures in
    let gyro : c.axes_at.result ≡ axes (fields_of_part (parts_of r) s gyro_temperatures) =
    axes_read r s gyro_temperatures refl 2 refl (ap (λ (ps : List ℕ). get_or ps 0 0) places) c.axes_at.ensures in
    let accelerometer : c.axes_at-2.result ≡ axes (fields_of_part (parts_of r) s accelerometer_temperatures) =
    axes_read r s accelerometer_temperatures refl 2 refl (ap (λ (ps : List ℕ). get_or ps 1 0) places) c.axes_at-2.ensures in
    let inclinometer : c.axes_at-3.result ≡ axes (fields_of_part (parts_of r) s inclinometer_temperatures) =
    axes_read r s inclinometer_temperatures refl 2 refl (ap (λ (ps : List ℕ). get_or ps 2 0) places) c.axes_at-3.ensures in
    let sets : c.bytes_at.result ≡ (contents_of r s).temperature_statuses =
    c.bytes_at.ensures ∙ rw (
      byte_placed r s gyro_temperatures 3 refl (omega arith) refl,
      byte_placed r s accelerometer_temperatures 3 refl (omega arith) refl,
      byte_placed r s inclinometer_temperatures 3 refl (omega arith) refl,
      places,
    ) in
    let aux_status_lem : c.byte_at.result ≡ (contents_of r s).aux_status =
    byte_read r s aux refl 1 (omega arith) refl aux-here c.byte_at.ensures in
    rw (
      c.statuses.ensures,
      gyro,
      accelerometer,
      inclinometer,
      sets,
      aux_status_lem,
      kept w32 c.aux_at.type_inv c.aux_at.ensures,
      aux-here,
      fields_placed r s aux refl,
      c.counter.ensures,
      c.latency.ensures,
    )
