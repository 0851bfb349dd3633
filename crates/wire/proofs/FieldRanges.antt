-- Every field of bytes fits its width: readings and AUX 24 bits, temperatures 16, the latency 16 without sign, statuses and counter a byte.
use Prim.Native.Nat.{ℕ, zero, suc, ◌+◌, ◌*◌, ◌^◌, ◌≤◌, ◌<◌}
use native.Mathlib.Omega.{arith}
use mathlib.Core.Bool.{Bool, true, false, cond}
use mathlib.Core.List.{List, [], ◌∷◌}
use mathlib.Core.Path.{◌≡◌, refl}
use lib.IntN.{ℤ, pos}
use lib.ListN.{length, get_or}
use lib.Pow.{pow_mono}
use Rattle.integers.specs.Bytes.{AllBytes, big_endian, signed_bytes}
use Rattle.integers.proofs.Parts.{pos_part, neg_part}
use Rattle.integers.proofs.Bytes.{bytes_nil, big_endian_below, signed_bytes_range}
use Rattle.integers.proofs.Folding.{InRange}
use Rattle.setup.specs.Layout.{Part, gyro, accelerometer, inclinometer, gyro_temperatures, accelerometer_temperatures, inclinometer_temperatures, aux}
use Rattle.setup.specs.Layout.{counter, latency, widths, parts_at, carries, offset}
use Rattle.wire.proofs.FieldPlaces.{window_length, window_bytes}
use Rattle.wire.specs.Fields.{Contents, cut, fields_of_part, signed_field, unsigned_field, axes, fields_of}

-- -32768 ≤ x ≤ 32767
pub record InTemperature (x : ℤ) : Type 0 where
  pub above : neg_part x ≤ 32768
  pub below : pos_part x < 32768

-- at most n bytes
record Narrow (n : ℕ) (bs : List ℕ) : Type 0 where
  few : length bs ≤ n
  bytes : AllBytes bs

power_few : (n : ℕ) (bs : List ℕ) → Narrow n bs → 2 ^ (8 * length bs) ≤ 2 ^ (8 * n)
power_few n bs h = let l : 8 * length bs ≤ 8 * n = let f = h.few in omega arith in pow_mono l

below_narrow : (n : ℕ) (bs : List ℕ) → Narrow n bs → big_endian bs < 2 ^ (8 * n)
below_narrow n bs h = omega (arith, power_few n bs h, big_endian_below bs h.bytes)

reading_narrow : (bs : List ℕ) → Narrow 3 bs → InRange (signed_bytes bs)
reading_narrow bs h =
    let c = signed_bytes_range bs h.bytes in
    let p : 2 ^ (8 * length bs) ≤ 16777216 = power_few 3 bs h in
    record { above = omega arith; below = omega arith }

temperature_narrow : (bs : List ℕ) → Narrow 2 bs → InTemperature (signed_bytes bs)
temperature_narrow bs h =
    let c = signed_bytes_range bs h.bytes in
    let p : 2 ^ (8 * length bs) ≤ 65536 = power_few 2 bs h in
    record { above = omega arith; below = omega arith }

-- a field of a part is at most as wide as the part says
cut_narrow : (ws : List ℕ) (k at : ℕ) {s : List ℕ} → AllBytes s → Narrow (get_or ws k 0) (get_or (cut ws at s) k [])
cut_narrow [] k at h = record { few = omega arith; bytes = bytes_nil }
cut_narrow (w ∷ ws) zero at {s} h = record { few = omega (arith, window_length w at s); bytes = window_bytes w at h }
cut_narrow (w ∷ ws) (suc k) at h = cut_narrow ws k (at + w) h

-- what holds of three and of the default holds at every place
at_three : {A : Type 0} (P : A → Type 0) (x y z d : A) → P x → P y → P z → P d → (k : ℕ) → P (get_or (x ∷ y ∷ z ∷ []) k d)
at_three P x y z d a b c e zero = a
at_three P x y z d a b c e (suc zero) = b
at_three P x y z d a b c e (suc (suc zero)) = c
at_three P x y z d a b c e (suc (suc (suc k))) = e

module _ (ps : List Part) (s : List ℕ) (h : AllBytes s) where
  field_narrow : (p : Part) (k : ℕ) → Narrow (get_or (widths p) k 0) (get_or (fields_of_part ps s p) k [])
  unfolding fields_of_part
  field_narrow p k = by (carries ps p)
    where
      by : (b : Bool) → Narrow (get_or (widths p) k 0) (get_or (cond b (cut (widths p) (offset ps p) s) []) k [])
      by true = cut_narrow (widths p) k (offset ps p) h
      by false = record { few = omega arith; bytes = bytes_nil }

  group_range : (p : Part) → widths p ≡ 3 ∷ 3 ∷ 3 ∷ 1 ∷ [] → (a : ℕ) → InRange (get_or (axes (fields_of_part ps s p)) a (pos 0))
  group_range p e =
      let at : (k : ℕ) → get_or (widths p) k 0 ≡ 3 → InRange (signed_field (fields_of_part ps s p) k) =
      λ k d. reading_narrow (get_or (fields_of_part ps s p) k []) (rw d at (field_narrow p k)) in
      at_three InRange (signed_field (fields_of_part ps s p) 0) (signed_field (fields_of_part ps s p) 1) (signed_field (fields_of_part ps s p) 2) (pos 0)
      (at 0 (rw e)) (at 1 (rw e)) (at 2 (rw e)) (record { above = omega arith; below = omega arith })

  temperatures_range : (p : Part) → widths p ≡ 2 ∷ 2 ∷ 2 ∷ 1 ∷ [] → (a : ℕ) → InTemperature (get_or (axes (fields_of_part ps s p)) a (pos 0))
  temperatures_range p e =
      let at : (k : ℕ) → get_or (widths p) k 0 ≡ 2 → InTemperature (signed_field (fields_of_part ps s p) k) =
      λ k d. temperature_narrow (get_or (fields_of_part ps s p) k []) (rw d at (field_narrow p k)) in
      at_three InTemperature (signed_field (fields_of_part ps s p) 0) (signed_field (fields_of_part ps s p) 1) (signed_field (fields_of_part ps s p) 2) (pos 0)
      (at 0 (rw e)) (at 1 (rw e)) (at 2 (rw e)) (record { above = omega arith; below = omega arith })

  unsigned_range : (p : Part) (k n : ℕ) → get_or (widths p) k 0 ≡ n → unsigned_field (fields_of_part ps s p) k < 2 ^ (8 * n)
  unsigned_range p k n e = below_narrow n (get_or (fields_of_part ps s p) k []) (rw e at (field_narrow p k))

pub record Fitting (d : Contents) : Type 0 where
  pub readings : (g a : ℕ) → InRange (get_or (get_or d.readings g []) a (pos 0))
  pub statuses : (g : ℕ) → get_or d.statuses g 0 < 256
  pub temperatures : (g a : ℕ) → InTemperature (get_or (get_or d.temperatures g []) a (pos 0))
  pub temperature_statuses : (g : ℕ) → get_or d.temperature_statuses g 0 < 256
  pub aux : InRange d.aux
  pub aux_status : d.aux_status < 256
  pub counter : d.counter < 256
  pub latency : d.latency < 65536

pub fields_fit : (i : ℕ) (s : List ℕ) → AllBytes s → Fitting (fields_of i s)
unfolding fields_of
fields_fit i s h =
    let ps = parts_at i in
    let group = group_range ps s h in
    let set = temperatures_range ps s h in
    let byte : (p : Part) (k : ℕ) → get_or (widths p) k 0 ≡ 1 → unsigned_field (fields_of_part ps s p) k < 256 = λ p k e. unsigned_range ps s h p k 1 e in
    record {
      readings =
          at_three (λ row. (a : ℕ) → InRange (get_or row a (pos 0)))
          (axes (fields_of_part ps s gyro)) (axes (fields_of_part ps s accelerometer)) (axes (fields_of_part ps s inclinometer)) []
          (group gyro refl) (group accelerometer refl) (group inclinometer refl)
          (λ a. record { above = omega arith; below = omega arith });
      statuses =
          at_three (λ n. n < 256) (unsigned_field (fields_of_part ps s gyro) 3) (unsigned_field (fields_of_part ps s accelerometer) 3)
          (unsigned_field (fields_of_part ps s inclinometer) 3) 0 (byte gyro 3 refl) (byte accelerometer 3 refl) (byte inclinometer 3 refl) (omega arith);
      temperatures =
          at_three (λ row. (a : ℕ) → InTemperature (get_or row a (pos 0)))
          (axes (fields_of_part ps s gyro_temperatures)) (axes (fields_of_part ps s accelerometer_temperatures)) (axes (fields_of_part ps s inclinometer_temperatures)) []
          (set gyro_temperatures refl) (set accelerometer_temperatures refl) (set inclinometer_temperatures refl)
          (λ a. record { above = omega arith; below = omega arith });
      temperature_statuses =
          at_three (λ n. n < 256) (unsigned_field (fields_of_part ps s gyro_temperatures) 3) (unsigned_field (fields_of_part ps s accelerometer_temperatures) 3)
          (unsigned_field (fields_of_part ps s inclinometer_temperatures) 3) 0
          (byte gyro_temperatures 3 refl) (byte accelerometer_temperatures 3 refl) (byte inclinometer_temperatures 3 refl) (omega arith);
      aux = reading_narrow (get_or (fields_of_part ps s aux) 0 []) (field_narrow ps s h aux 0);
      aux_status = byte aux 1 refl;
      counter = byte counter 0 refl;
      latency = unsigned_range ps s h latency 0 2 refl;
    }
