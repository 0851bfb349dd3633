-- A helper of proofs, no rule of 01: one call of feed by its parts, what the code hands from function to function.
use Rattle.std.specs.Prelude.{ℕ, ◌+◌, ◌-◌, ◌<◌, List, [], ◌∷◌, ℤ, length}
use Rattle.wire.specs.Fields.{Contents}
use Rattle.wire.specs.declared.Fields.{Fields}
use Rattle.scan.specs.Scan.{First, ends, finds}
use Rattle.scan.specs.Calls.{taking}
use Rattle.scan.specs.Carry.{carrying}
use Rattle.history.specs.History.{greatest_count}
use Rattle.session.specs.declared.Session.{Session}
use Rattle.feeding.specs.declared.Reply.{Reply}
use Rattle.feeding.specs.Feed.{consumer, state_of, reply_of}

-- the contents of a datagram from its readings and its other fields
abbrev pub contents_with : List (List ℤ) → Fields → Contents
contents_with readings f =
    record {
      readings = readings;
      statuses = f.statuses;
      temperatures = f.gyro_temperatures ∷ f.accelerometer_temperatures ∷ f.inclinometer_temperatures ∷ [];
      temperature_statuses = f.temperature_statuses;
      aux = f.aux;
      aux_status = f.aux_status;
      counter = f.counter;
      latency = f.latency;
    }

-- the answer of a call that takes k bytes, with which the scan comes to f
unfoldable pub reply_after : Session → ℕ → First → Reply
reply_after s k f = reply_of s (carrying (consumer s.setup) (state_of s) (taking (state_of s).scan k f))

-- the same where f is the scan of the bytes held and the whole piece p: the bytes behind a datagram aren't taken
abbrev pub reply_at_once : Session → List ℕ → First → Reply
reply_at_once s p (ends n h) = reply_after s (length p) (ends n h)
reply_at_once s p (finds n d r) = reply_after s (length p - length r) (finds n d [])

-- the counts of a session leave room for one more datagram and n more bytes
pub record Room (s : Session) (n : ℕ) : Type 0 where
  pub datagrams : s.history.datagrams.0 < greatest_count
  pub passed : s.passed + n < greatest_count
  pub fed : s.fed + n < greatest_count
