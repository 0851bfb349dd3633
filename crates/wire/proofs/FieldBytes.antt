-- Which bytes each field is: those behind the place of its part, by the widths of the fields in front of it (01, Layout by identifier).
use Prim.Native.Nat.{ℕ, zero, suc, ◌+◌, ◌*◌, ◌<◌}
use native.Mathlib.Nat.{add-zero}
use native.Mathlib.Omega.{arith}
use mathlib.Core.Bool.{true, false}
use mathlib.Core.List.{List, [], ◌∷◌}
use mathlib.Core.Path.{◌≡◌, refl, ap, ◌∙◌}
use lib.IntN.{ℤ, pos}
use lib.ListN.{length, get_or, take}
use Rattle.integers.specs.Bytes.{big_endian, twos_complement, signed_bytes}
use Rattle.setup.specs.Layout.{Part, gyro, accelerometer, inclinometer, gyro_temperatures, accelerometer_temperatures, inclinometer_temperatures, aux}
use Rattle.setup.specs.Layout.{counter, latency, widths, sum, parts_at, carries, offset, placed, row_at}
use Rattle.setup.specs.Setup.{ruling_on}
use Rattle.setup.specs.Sensor.{sensor_of}
use Rattle.setup.specs.declared.Row.{Row}
use Rattle.setup.specs.declared.Setup.{Setup}
use Rattle.setup.proofs.Rows.{listed_parts}
use Rattle.setup.proofs.Sensors.{sensor_row}
use Rattle.wire.specs.Fields.{groups, temperature_sets, window, fields_of_part, signed_field, unsigned_field, axes, contents, contents_of}
use Rattle.wire.specs.Fields.{fields_of}
use Rattle.wire.proofs.FieldPlaces.{cut_field, one_byte}
use Rattle.std.specs.Prelude.{Some, Ok}

-- the fields of a listed identifier are those of its row; so of an accepted setup they are those of its sensor's
pub row_fields : (i : ℕ) {r : Row} (s : List ℕ) → row_at i ≡ Some r → fields_of i s ≡ contents_of r s
unfolding fields_of contents_of
row_fields i s e = ap (λ ps. contents ps s) (listed_parts i e)

pub sensor_fields : (u : Setup) (s : List ℕ) → ruling_on u ≡ Ok tt → fields_of u.identifier s ≡ contents_of (sensor_of u).row s
sensor_fields u s ok = row_fields u.identifier s (sensor_row u ok)

-- X, Y and Z are the first three fields
axis_field : (fs : List (List ℕ)) (a : ℕ) → a < 3 → get_or (axes fs) a (pos 0) ≡ signed_field fs a
axis_field fs zero h = refl
axis_field fs (suc zero) h = refl
axis_field fs (suc (suc zero)) h = refl
axis_field fs (suc (suc (suc a))) h = absurd (omega arith)

-- each behind those of w bytes in front of it
axis_widths : (w a : ℕ) → a < 3 → (get_or (w ∷ w ∷ w ∷ 1 ∷ []) a 0 ≡ w) × (sum (take a (w ∷ w ∷ w ∷ 1 ∷ [])) ≡ w * a)
axis_widths w zero h = (refl, omega arith)
axis_widths w (suc zero) h = (refl, omega arith)
axis_widths w (suc (suc zero)) h = (refl, omega arith)
axis_widths w (suc (suc (suc a))) h = absurd (omega arith)

module _ (i : ℕ) (s : List ℕ) where
  module _ (p : Part) (c : carries (parts_at i) p ≡ true) where
    -- the field k of a part that is carried
    pub field_bytes : (k : ℕ) → k < length (widths p)
        → get_or (fields_of_part (parts_at i) s p) k [] ≡ window (get_or (widths p) k 0) (placed (parts_at i) p + sum (take k (widths p))) s
    unfolding fields_of_part
    field_bytes k h = rw c (cut_field (widths p) k (offset (parts_at i) p) s h)

    first_field : 0 < length (widths p) → get_or (fields_of_part (parts_at i) s p) 0 [] ≡ window (get_or (widths p) 0 0) (placed (parts_at i) p) s
    first_field h = field_bytes 0 h ∙ ap (λ n. window (get_or (widths p) 0 0) n s) (add-zero (placed (parts_at i) p))

    -- a field of one byte
    byte_field : (k : ℕ) → k < length (widths p) → get_or (widths p) k 0 ≡ 1
        → unsigned_field (fields_of_part (parts_at i) s p) k ≡ get_or s (placed (parts_at i) p + sum (take k (widths p))) 0
    byte_field k h e = rw (field_bytes k h, e) (one_byte s (placed (parts_at i) p + sum (take k (widths p))))

    -- the axis a of a part of three fields of w bytes and a status
    axis_bytes : (w : ℕ) → widths p ≡ w ∷ w ∷ w ∷ 1 ∷ [] → (a : ℕ) → a < 3
        → get_or (axes (fields_of_part (parts_at i) s p)) a (pos 0) ≡ signed_bytes (window w (placed (parts_at i) p + w * a) s)
    axis_bytes w e a h =
        let ws = axis_widths w a h in
        let l : a < length (widths p) = rw e (omega arith) in
        let f : get_or (fields_of_part (parts_at i) s p) a [] ≡ window w (placed (parts_at i) p + w * a) s = rw (e, ws.0, ws.1) at (field_bytes a l) in
        axis_field (fields_of_part (parts_at i) s p) a h ∙ ap signed_bytes f

  -- group g, counted from 0: axis a in the three bytes from 3 × a on, the status in the byte 9
  pub reading_bytes : (g a : ℕ) → g < 3 → a < 3 → carries (parts_at i) (get_or groups g gyro) ≡ true
      → get_or (get_or (fields_of i s).readings g []) a (pos 0) ≡ signed_bytes (window 3 (placed (parts_at i) (get_or groups g gyro) + 3 * a) s)
  unfolding fields_of
  reading_bytes zero a g h c = axis_bytes gyro c 3 refl a h
  reading_bytes (suc zero) a g h c = axis_bytes accelerometer c 3 refl a h
  reading_bytes (suc (suc zero)) a g h c = axis_bytes inclinometer c 3 refl a h
  reading_bytes (suc (suc (suc k))) a g h c = absurd (omega arith)

  pub status_byte : (g : ℕ) → g < 3 → carries (parts_at i) (get_or groups g gyro) ≡ true
      → get_or (fields_of i s).statuses g 0 ≡ get_or s (placed (parts_at i) (get_or groups g gyro) + 9) 0
  unfolding fields_of
  status_byte zero g c = byte_field gyro c 3 (omega arith) refl
  status_byte (suc zero) g c = byte_field accelerometer c 3 (omega arith) refl
  status_byte (suc (suc zero)) g c = byte_field inclinometer c 3 (omega arith) refl
  status_byte (suc (suc (suc k))) g c = absurd (omega arith)

  -- its temperature set: axis a in the two bytes from 2 × a on, the status in the byte 6
  pub temperature_bytes : (g a : ℕ) → g < 3 → a < 3 → carries (parts_at i) (get_or temperature_sets g gyro_temperatures) ≡ true
      → get_or (get_or (fields_of i s).temperatures g []) a (pos 0)
      ≡ signed_bytes (window 2 (placed (parts_at i) (get_or temperature_sets g gyro_temperatures) + 2 * a) s)
  unfolding fields_of
  temperature_bytes zero a g h c = axis_bytes gyro_temperatures c 2 refl a h
  temperature_bytes (suc zero) a g h c = axis_bytes accelerometer_temperatures c 2 refl a h
  temperature_bytes (suc (suc zero)) a g h c = axis_bytes inclinometer_temperatures c 2 refl a h
  temperature_bytes (suc (suc (suc k))) a g h c = absurd (omega arith)

  pub temperature_status_byte : (g : ℕ) → g < 3 → carries (parts_at i) (get_or temperature_sets g gyro_temperatures) ≡ true
      → get_or (fields_of i s).temperature_statuses g 0 ≡ get_or s (placed (parts_at i) (get_or temperature_sets g gyro_temperatures) + 6) 0
  unfolding fields_of
  temperature_status_byte zero g c = byte_field gyro_temperatures c 3 (omega arith) refl
  temperature_status_byte (suc zero) g c = byte_field accelerometer_temperatures c 3 (omega arith) refl
  temperature_status_byte (suc (suc zero)) g c = byte_field inclinometer_temperatures c 3 (omega arith) refl
  temperature_status_byte (suc (suc (suc k))) g c = absurd (omega arith)

  -- AUX: three bytes and a status
  pub aux_bytes_lem : carries (parts_at i) aux ≡ true
      → ((fields_of i s).aux ≡ signed_bytes (window 3 (placed (parts_at i) aux) s))
      × ((fields_of i s).aux_status ≡ get_or s (placed (parts_at i) aux + 3) 0)
  unfolding fields_of
  aux_bytes_lem c = (ap signed_bytes (first_field aux c (omega arith)), byte_field aux c 1 (omega arith) refl)

  -- the counter in one byte, the latency in two
  pub counter_byte : carries (parts_at i) counter ≡ true → (fields_of i s).counter ≡ get_or s (placed (parts_at i) counter) 0
  unfolding fields_of
  counter_byte c = ap big_endian (first_field counter c (omega arith)) ∙ one_byte s (placed (parts_at i) counter)

  pub latency_bytes : carries (parts_at i) latency ≡ true → (fields_of i s).latency ≡ big_endian (window 2 (placed (parts_at i) latency) s)
  unfolding fields_of
  latency_bytes c = ap big_endian (first_field latency c (omega arith))

-- ---- what isn't carried has no fields, so that its values are 0

pub absent_part : (i : ℕ) (s : List ℕ) (p : Part) → carries (parts_at i) p ≡ false → fields_of_part (parts_at i) s p ≡ []
unfolding fields_of_part
absent_part i s p e = rw e

abbrev pub zero_axes : List ℤ
zero_axes = pos 0 ∷ pos 0 ∷ pos 0 ∷ []

pub absent_group : (i : ℕ) (s : List ℕ) (g : ℕ) → g < 3 → carries (parts_at i) (get_or groups g gyro) ≡ false
    → (get_or (fields_of i s).readings g [] ≡ zero_axes) × (get_or (fields_of i s).statuses g 0 ≡ 0)
unfolding fields_of signed_bytes twos_complement big_endian
absent_group i s zero h e = rw (absent_part i s gyro e) (refl, refl)
absent_group i s (suc zero) h e = rw (absent_part i s accelerometer e) (refl, refl)
absent_group i s (suc (suc zero)) h e = rw (absent_part i s inclinometer e) (refl, refl)
absent_group i s (suc (suc (suc g))) h e = absurd (omega arith)

pub absent_temperatures : (i : ℕ) (s : List ℕ) (g : ℕ) → g < 3 → carries (parts_at i) (get_or temperature_sets g gyro_temperatures) ≡ false
    → (get_or (fields_of i s).temperatures g [] ≡ zero_axes) × (get_or (fields_of i s).temperature_statuses g 0 ≡ 0)
unfolding fields_of signed_bytes twos_complement big_endian
absent_temperatures i s zero h e = rw (absent_part i s gyro_temperatures e) (refl, refl)
absent_temperatures i s (suc zero) h e = rw (absent_part i s accelerometer_temperatures e) (refl, refl)
absent_temperatures i s (suc (suc zero)) h e = rw (absent_part i s inclinometer_temperatures e) (refl, refl)
absent_temperatures i s (suc (suc (suc g))) h e = absurd (omega arith)

pub absent_aux : (i : ℕ) (s : List ℕ) → carries (parts_at i) aux ≡ false → ((fields_of i s).aux ≡ pos 0) × ((fields_of i s).aux_status ≡ 0)
unfolding fields_of signed_bytes twos_complement big_endian
absent_aux i s e = rw (absent_part i s aux e) (refl, refl)
