-- What is known of a datagram of a setup: bytes of one length that begin with one identifier. The rules of an accepted setup belong together.
use Prim.Native.Nat.{ℕ, ◌≤◌}
use mathlib.Core.Path.{◌≡◌}
use mathlib.Core.Bool.{true}
use mathlib.Core.List.{List}
use native.Mathlib.Omega.{arith}
use lib.ListN.{length, get_or}
use Rattle.integers.specs.Bytes.{AllBytes, are_bytes}
use Rattle.integers.proofs.Booleans.{and_split}
use Rattle.integers.proofs.Bytes.{are_bytes_all}
use Rattle.setup.specs.Setup.{ruling_on, length_of}
use Rattle.setup.specs.declared.Setup.{Setup}
use Rattle.setup.proofs.Refusals as refusals
use Rattle.acceptance.specs.Acceptable.{acceptable}
use Rattle.acceptance.proofs.Acceptance.{accepted, accepted_length}
use Rattle.scan.specs.Rules.{Lawful}
use Rattle.scan.specs.Scan.{scan}
use Rattle.scan.specs.Stream.{Among}
use Rattle.scan.specs.OneLength.{Prompt}
use Rattle.scan.proofs.AmongLaws.{scan_among}
use Rattle.scan.proofs.OneLength.{one_length_lawful, one_length_prompt, scan_bare}
use Rattle.search.specs.Search.{is_datagram, limits_of, rules_of, verdict_of}
use Rattle.std.specs.Prelude.{Ok}

module _ (u : Setup) (d : List ℕ) where
  -- a datagram is bytes, and acceptable
  pub datagram_parts : is_datagram u d ≡ true → AllBytes d × (acceptable u d ≡ true)
  unfolding is_datagram
  datagram_parts e = let k = and_split (are_bytes d) (acceptable u d) e in (are_bytes_all d k.0, k.1)

-- it has the setup's length and begins with its identifier
module _ (u : Setup) (d : List ℕ) (good : is_datagram u d ≡ true) where
  pub datagram_length : length d ≡ length_of u
  datagram_length = (accepted u d (datagram_parts u d good).1).long

  pub datagram_first : get_or d 0 0 ≡ u.identifier
  datagram_first = (accepted u d (datagram_parts u d good).1).first

  -- 18 bytes at least
  pub datagram_least : 18 ≤ length d
  datagram_least = (accepted_length u d (datagram_parts u d good).1).0

module _ (u : Setup) (a : ruling_on u ≡ Ok tt) where
  some : 1 ≤ length_of u
  some = omega (arith, (refusals.accepted_length u a).0)

  -- so all that the scan asks of the rules holds
  pub lawful : Lawful (rules_of u)
  lawful = one_length_lawful u.identifier (length_of u) (is_datagram u) (limits_of u) some (datagram_length u) (datagram_first u)

  -- and what holds for one length only
  pub prompt : Prompt (rules_of u)
  prompt = one_length_prompt u.identifier (length_of u) (is_datagram u) (limits_of u) some (datagram_length u) (datagram_first u)

  -- The scan's datagrams stand in bytes one behind the other, and none begins at any of the bytes between them.
  pub among_found : (v : List ℕ) → Among (is_datagram u) v (scan (verdict_of u) v).datagrams
  among_found v = scan_among (rules_of u) lawful v (scan_bare (rules_of u) lawful prompt v)
