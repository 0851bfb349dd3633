-- 01, Layout by identifier: the fields of a datagram, read off the list of its parts with their widths.
use Rattle.std.specs.Prelude.{ℕ, zero, suc, ◌+◌, cond, List, [], ◌∷◌, map, ℤ, get_or}
use Rattle.integers.specs.Bytes.{big_endian, signed_bytes}
use Rattle.setup.specs.Layout.{Part, gyro, accelerometer, inclinometer, gyro_temperatures, accelerometer_temperatures, inclinometer_temperatures, aux}
use Rattle.setup.specs.Layout.{counter, latency, widths, parts_of, parts_at, carries, offset}
use Rattle.setup.specs.declared.Row.{Row}
use Rattle.wire.specs.declared.Fields.{Fields}

-- the groups, and their temperature sets, in 01's order
abbrev pub groups : List Part
groups = gyro ∷ accelerometer ∷ inclinometer ∷ []

abbrev pub temperature_sets : List Part
temperature_sets = gyro_temperatures ∷ accelerometer_temperatures ∷ inclinometer_temperatures ∷ []

-- n bytes of a list from a place on; what lies beyond its end counts as 0
abbrev pub window : ℕ → ℕ → List ℕ → List ℕ
window zero at s = []
window (suc n) at s = get_or s at 0 ∷ window n (suc at) s

-- fields of the given widths from a place on, one behind the other
abbrev pub cut : List ℕ → ℕ → List ℕ → List (List ℕ)
cut [] at s = []
cut (w ∷ ws) at s = window w at s ∷ cut ws (at + w) s

-- the fields of a part, by its widths from where it begins; a part that isn't carried has none
unfoldable pub fields_of_part : List Part → List ℕ → Part → List (List ℕ)
fields_of_part ps s p = cond (carries ps p) (cut (widths p) (offset ps p) s) []

-- a field by its number in the part; one that isn't there has no bytes, whose value is 0
abbrev pub signed_field : List (List ℕ) → ℕ → ℤ
signed_field fs k = signed_bytes (get_or fs k [])

abbrev pub unsigned_field : List (List ℕ) → ℕ → ℕ
unsigned_field fs k = big_endian (get_or fs k [])

-- X, Y and Z of a group or a temperature set, and the status behind them
abbrev pub axes : List (List ℕ) → List ℤ
axes fs = signed_field fs 0 ∷ signed_field fs 1 ∷ signed_field fs 2 ∷ []

abbrev pub status : List (List ℕ) → ℕ
status fs = unsigned_field fs 3

-- all that stands in a datagram between identifier and check: the readings and the temperatures are grids of three groups by three axes
pub record Contents : Type 0 where
  pub readings : List (List ℤ)
  pub statuses : List ℕ
  pub temperatures : List (List ℤ)
  pub temperature_statuses : List ℕ
  pub aux : ℤ
  pub aux_status : ℕ
  pub counter : ℕ
  pub latency : ℕ

abbrev pub contents : List Part → List ℕ → Contents
contents ps s =
    record {
      readings = map (λ p. axes (fields_of_part ps s p)) groups;
      statuses = map (λ p. status (fields_of_part ps s p)) groups;
      temperatures = map (λ p. axes (fields_of_part ps s p)) temperature_sets;
      temperature_statuses = map (λ p. status (fields_of_part ps s p)) temperature_sets;
      aux = signed_field (fields_of_part ps s aux) 0;
      aux_status = unsigned_field (fields_of_part ps s aux) 1;
      counter = unsigned_field (fields_of_part ps s counter) 0;
      latency = unsigned_field (fields_of_part ps s latency) 0;
    }

-- by the row of a datagram, and by its identifier; of one that isn't in the table all is 0
unfoldable pub contents_of : Row → List ℕ → Contents
contents_of r s = contents (parts_of r) s

unfoldable pub fields_of : ℕ → List ℕ → Contents
fields_of identifier s = contents (parts_at identifier) s

-- the same as the code has it, where the readings are a grid of their own
abbrev pub besides_readings : Contents → Fields
besides_readings d =
    record {
      statuses = d.statuses;
      gyro_temperatures = get_or d.temperatures 0 [];
      accelerometer_temperatures = get_or d.temperatures 1 [];
      inclinometer_temperatures = get_or d.temperatures 2 [];
      temperature_statuses = d.temperature_statuses;
      aux = d.aux;
      aux_status = d.aux_status;
      counter = d.counter;
      latency = d.latency;
    }
