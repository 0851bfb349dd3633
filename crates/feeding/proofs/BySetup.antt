-- For an accepted setup, what a datagram does and what comes back with it by the sensor is that by the setup's own rules. Assumes nothing.
use Prim.Native.Nat.{ℕ}
use mathlib.Core.Path.{◌≡◌, sym, ap, ◌∙◌}
use mathlib.Core.Bool.{Bool}
use mathlib.Core.List.{List}
use Rattle.setup.specs.Setup.{ruling_on}
use Rattle.setup.specs.Sensor.{sensor_of}
use Rattle.setup.specs.declared.Setup.{Setup}
use Rattle.setup.specs.declared.Sensor.{Sensor}
use Rattle.setup.proofs.Sensors.{sensor_rate}
use Rattle.wire.specs.Fields.{Contents, fields_of}
use Rattle.wire.proofs.FieldBytes.{sensor_fields}
use Rattle.gaps.specs.Gaps.{gap_at}
use Rattle.gaps.proofs.AcceptedSetup.{accepted_gap}
use Rattle.motion.specs.Totals.{groups_kept}
use Rattle.motion.proofs.AcceptedSetup.{accepted_kept}
use Rattle.search.specs.Search.{verdict_of, verdict_in}
use Rattle.search.proofs.Sensors.{verdict_sensor}
use Rattle.history.specs.History.{history_next}
use Rattle.history.specs.declared.History.{History}
use Rattle.feeding.specs.Feed.{datagram_with, history_after, tell}
use Rattle.std.specs.Prelude.{Ok}

module _ (u : Setup) (ok : ruling_on u ≡ Ok tt) where
  -- the scan by a setup's sensor
  pub sensor_verdict : (s : Sensor) → s ≡ sensor_of u → verdict_in s ≡ verdict_of u
  sensor_verdict s e = ap verdict_in e ∙ verdict_sensor u ok

  module _ (first : Bool) (h : History) (d : List ℕ) where
    abbrev inside_it : Contents
    inside_it = fields_of u.identifier d

    pub after_datagram :
        history_after (sensor_of u) first h d ≡ history_next u.rate (groups_kept u) first h inside_it.readings inside_it.statuses inside_it.counter
    unfolding history_after
    after_datagram =
        λ i.
        let c = sym (sensor_fields u d ok) i in
        history_next (sensor_rate u ok i) (accepted_kept u ok i) first h c.readings c.statuses c.counter

    pub told_datagram :
        tell (sensor_of u) first h d
        ≡ datagram_with (sensor_of u) (gap_at u.rate first h.previous inside_it.counter) inside_it
        (history_next u.rate (groups_kept u) first h inside_it.readings inside_it.statuses inside_it.counter)
    unfolding tell
    told_datagram =
        λ i.
        let c = sym (sensor_fields u d ok) i in
        datagram_with (sensor_of u) (accepted_gap u ok first h.previous c.counter i) c (after_datagram i)
