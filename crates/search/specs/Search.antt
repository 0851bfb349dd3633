-- 01, The scan, of the datagrams of a setup.
use Rattle.std.specs.Prelude.{ℕ, ◌^◌, Bool, ◌&&◌, List, length}
use Rattle.std.proofs.Math.Option.{Option, none, some}
use Rattle.integers.specs.Bytes.{are_bytes}
use Rattle.setup.specs.Setup.{length_of}
use Rattle.setup.specs.declared.Setup.{Setup}
use Rattle.setup.specs.Layout.{layout_of, length_in}
use Rattle.setup.specs.declared.Sensor.{Sensor}
use Rattle.acceptance.specs.Acceptable.{acceptable_in, acceptable}
use Rattle.scan.specs.Scan.{Verdict, First, ends, finds}
use Rattle.scan.specs.Front.{front}
use Rattle.scan.specs.Rules.{Limits, Rules, verdict}
use Rattle.scan.specs.OneLength.{one_candidate, held_rule}
use Rattle.search.specs.declared.Place.{Place}
use Rattle.search.specs.declared.Place.TheVariants.{Complete, Undecided}
use Rattle.refusals.specs.declared.Refusal.TheVariants.{PieceTooLong}

-- a datagram begins with the setup's identifier, and then has the setup's length
abbrev pub candidate_of : Setup → ℕ → ℕ
candidate_of u = one_candidate u.identifier (length_of u)

-- an acceptable datagram of a setup: bytes of its length with identifier, check and termination right
unfoldable pub is_datagram : Setup → List ℕ → Bool
is_datagram u d = are_bytes d && acceptable u d

-- the most bytes of a piece, which 11 refuses beyond, and of a session (10 and 12)
abbrev pub limits_of : Setup → Limits
limits_of u = record { piece = 4096; too_long = PieceTooLong; session = 2 ^ 34 }

-- the rules of a setup, by which its sessions scan
abbrev pub rules_of : Setup → Rules
rules_of u =
    record {
      candidate = candidate_of u;
      acceptable = is_datagram u;
      may_hold = held_rule u.identifier (length_of u);
      greatest = length_of u;
      limits = limits_of u;
    }

-- what is decided at the front of the undecided bytes
abbrev pub verdict_of : Setup → List ℕ → Verdict
verdict_of u = verdict (rules_of u)

-- the same by what an accepted setup says of its sensor: an acceptable datagram, its length, what is decided at the front
unfoldable pub is_datagram_in : Sensor → List ℕ → Bool
is_datagram_in s d = are_bytes d && acceptable_in s.identifier (layout_of s.row s.terminated) d

abbrev pub size_in : Sensor → ℕ
size_in s = length_in (layout_of s.row s.terminated)

abbrev pub verdict_in : Sensor → List ℕ → Verdict
verdict_in s = front (one_candidate s.identifier (size_in s)) (is_datagram_in s)

-- where the scan up to its first datagram stops: where that begins and how long it is, or from where on the bytes are undecided
abbrev pub place_of : First → Place
place_of (ends n h) = Undecided n
place_of (finds n d r) = Complete n (length d)

-- what each case says: how many bytes are passed over, and the size of the datagram behind them, none where what follows is undecided
abbrev pub passed_before : Place → ℕ
passed_before (Undecided n) = n
passed_before (Complete n size) = n

abbrev pub size_found : Place → Option ℕ
size_found (Undecided n) = none
size_found (Complete n size) = some size
