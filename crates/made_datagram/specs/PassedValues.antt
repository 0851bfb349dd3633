-- 02, 2.1, 15: what it asks of the values of a datagram, clause by clause, as facts and not as tests. Group g is counted from 0.
use Rattle.std.specs.Prelude.{ℕ, ◌<◌, true, false, List, [], ◌∷◌, ◌≡◌, ℤ, pos, negsuc, get_or, ◌≤ℤ◌}
use Rattle.setup.specs.Layout.{Part, gyro, gyro_temperatures, aux, counter, latency, parts_at, carries}
use Rattle.setup.specs.declared.Setup.{Setup}
use Rattle.wire.specs.Fields.{groups, temperature_sets}
use Rattle.made_datagram.specs.declared.Values.{Values}

-- low ≤ z ≤ high
abbrev pub From : ℤ → ℤ → ℤ → Type 0
From low high z = (low ≤ℤ z) × (z ≤ℤ high)

-- a value z of the part p lies between low and high if the part is carried, and is 0 if it isn't
pub record Passes (u : Setup) (p : Part) (low high z : ℤ) : Type 0 where
  pub carried : carries (parts_at u.identifier) p ≡ true → From low high z
  pub absent : carries (parts_at u.identifier) p ≡ false → z ≡ pos 0

-- the temperatures of a set
abbrev pub temperatures_of : Values → ℕ → List ℤ
temperatures_of v g = get_or (v.gyro_temperatures ∷ v.accelerometer_temperatures ∷ v.inclinometer_temperatures ∷ []) g []

pub record PassesFifteen (u : Setup) (readings : List (List ℤ)) (v : Values) : Type 0 where
  -- readings in 24 bits, their statuses in 8
  pub reading :
      (g a : ℕ) → g < 3 → a < 3 → Passes u (get_or groups g gyro) (negsuc 8388607) (pos 8388607) (get_or (get_or readings g []) a (pos 0))
  pub status : (g : ℕ) → g < 3 → Passes u (get_or groups g gyro) (pos 0) (pos 255) (get_or v.statuses g (pos 0))
  -- temperatures in 16 bits, their statuses in 8
  pub temperature :
      (g a : ℕ) → g < 3 → a < 3
      → Passes u (get_or temperature_sets g gyro_temperatures) (negsuc 32767) (pos 32767) (get_or (temperatures_of v g) a (pos 0))
  pub temperature_status :
      (g : ℕ) → g < 3 → Passes u (get_or temperature_sets g gyro_temperatures) (pos 0) (pos 255) (get_or v.temperature_statuses g (pos 0))
  -- AUX in 24 bits, its status in 8
  pub aux_value : Passes u aux (negsuc 8388607) (pos 8388607) v.aux
  pub aux_status_lem : Passes u aux (pos 0) (pos 255) v.aux_status
  -- the counter in 8 bits, the latency in 16
  pub counter_value : Passes u counter (pos 0) (pos 255) v.counter
  pub latency_value : Passes u latency (pos 0) (pos 65535) v.latency
