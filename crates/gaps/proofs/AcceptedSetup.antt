-- The sensor that an accepted setup describes has the setup's numbers, so gaps by the one are those by the other. Assumes nothing.
use Prim.Native.Nat.{ℕ}
use mathlib.Core.Bool.{Bool}
use mathlib.Core.Path.{◌≡◌, ap}
use Rattle.setup.specs.Setup.{ruling_on}
use Rattle.setup.specs.Sensor.{sensor_of}
use Rattle.setup.specs.declared.Setup.{Setup}
use Rattle.setup.specs.declared.Sensor.{Sensor}
use Rattle.setup.proofs.Sensors.{sensor_rate}
use Rattle.gaps.specs.Gaps.{gap_at, gap_between}
use Rattle.std.specs.Prelude.{Ok}

module _ (u : Setup) (a : ruling_on u ≡ Ok tt) where
  abbrev s : Sensor
  s = sensor_of u

  -- the gap
  pub accepted_gap : (first : Bool) (previous counter : ℕ) → gap_between s.rate first previous counter ≡ gap_at u.rate first previous counter
  accepted_gap first previous counter = ap (λ (n : ℕ). gap_at n first previous counter) (sensor_rate u a)
