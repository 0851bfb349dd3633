-- The scan by the sensor that an accepted setup describes is the scan of the setup.
use Prim.Native.Nat.{ℕ}
use mathlib.Core.Path.{◌≡◌, sym}
use mathlib.Core.Bool.{◌&&◌}
use mathlib.Core.List.{List}
use Rattle.integers.specs.Bytes.{AllBytes, are_bytes}
use Rattle.integers.proofs.Bytes.{all_are_bytes}
use Rattle.setup.specs.Setup.{ruling_on}
use Rattle.setup.specs.Sensor.{sensor_of}
use Rattle.setup.specs.Layout.{layout_of}
use Rattle.setup.specs.declared.Setup.{Setup}
use Rattle.setup.specs.declared.Sensor.{Sensor}
use Rattle.setup.proofs.Sensors.{sensor_length}
use Rattle.acceptance.specs.Acceptable.{acceptable_in}
use Rattle.acceptance.proofs.Acceptance.{sensor_acceptable}
use Rattle.scan.specs.Front.{front}
use Rattle.scan.specs.OneLength.{one_candidate}
use Rattle.search.specs.Search.{is_datagram, verdict_of, is_datagram_in, verdict_in}
use Rattle.std.specs.Prelude.{Ok}

-- of bytes only the content decides
pub bytes_sensor : (s : Sensor) (d : List ℕ) → AllBytes d → is_datagram_in s d ≡ acceptable_in s.identifier (layout_of s.row s.terminated) d
unfolding is_datagram_in
bytes_sensor s d h = rw (all_are_bytes d h)

module _ (u : Setup) (ok : ruling_on u ≡ Ok tt) where
  same_datagrams : is_datagram_in (sensor_of u) ≡ is_datagram u
  unfolding is_datagram_in is_datagram
  same_datagrams = λ i. λ (d : List ℕ). are_bytes d && sym (sensor_acceptable u d ok) i

  pub verdict_sensor : verdict_in (sensor_of u) ≡ verdict_of u
  unfolding sensor_of
  verdict_sensor = λ i. front (one_candidate u.identifier (sym (sensor_length u ok) i)) (same_datagrams i)
