-- 02, 2.1: what it writes is accepted and read as the same fields, and an accepted Normal Mode datagram written again has the same bytes.
use Rattle.std.specs.Prelude.{ℕ, ◌<◌, true, false, List, [], ◌≡◌, ℤ, length, get_or}
use Rattle.integers.specs.Bytes.{AllBytes}
use Rattle.setup.specs.Setup.{length_of}
use Rattle.setup.specs.declared.Setup.{Setup}
use Rattle.wire.specs.Fields.{fields_of}
use Rattle.acceptance.specs.Acceptable.{acceptable}
use Rattle.made_datagram.specs.Making.{made_datagram, outside, values_read}
use Rattle.made_datagram.specs.declared.Values.{Values}

-- three rows of three readings, and the values' lists of three: so are all that a call can be given
pub record Shaped (readings : List (List ℤ)) (v : Values) : Type 0 where
  pub groups : length readings ≡ 3
  pub axes : (g : ℕ) → g < 3 → length (get_or readings g []) ≡ 3
  pub statuses : length v.statuses ≡ 3
  pub gyro_temperatures : length v.gyro_temperatures ≡ 3
  pub accelerometer_temperatures : length v.accelerometer_temperatures ≡ 3
  pub inclinometer_temperatures : length v.inclinometer_temperatures ≡ 3
  pub temperature_statuses_lem : length v.temperature_statuses ≡ 3

-- of a setup that is not refused
pub record RoundTrip (u : Setup) : Type 0 where
  -- what is written for values that 15 lets pass is L bytes and acceptable
  pub written :
      (readings : List (List ℤ)) (v : Values) → outside u readings v ≡ false
      → AllBytes (made_datagram u readings v) × (acceptable u (made_datagram u readings v) ≡ true)
      × (length (made_datagram u readings v) ≡ length_of u)
  -- and read as these values
  pub read :
      (readings : List (List ℤ)) (v : Values) → Shaped readings v → outside u readings v ≡ false
      → ((fields_of u.identifier (made_datagram u readings v)).readings ≡ readings)
      × (values_read (fields_of u.identifier (made_datagram u readings v)) ≡ v)
  -- the fields of an acceptable datagram pass 15, and written again they are the same bytes
  pub passes :
      (d : List ℕ) → AllBytes d → acceptable u d ≡ true
      → outside u (fields_of u.identifier d).readings (values_read (fields_of u.identifier d)) ≡ false
  pub again :
      (d : List ℕ) → AllBytes d → acceptable u d ≡ true
      → made_datagram u (fields_of u.identifier d).readings (values_read (fields_of u.identifier d)) ≡ d
  -- so no two datagrams read alike
  pub told_apart :
      (d e : List ℕ) → AllBytes d → AllBytes e → acceptable u d ≡ true → acceptable u e ≡ true
      → fields_of u.identifier d ≡ fields_of u.identifier e → d ≡ e
