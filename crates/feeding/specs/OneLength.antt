-- What the base promises of feeding only because all datagrams of a session have one length. Request 2.7 ends it, and with it this file:
-- then bytes held may have a whole datagram in them, an empty piece can bring it out, and datagrams of several kinds are handed out.
use Rattle.std.specs.Prelude.{ℕ, ◌+◌, ◌*◌, ◌≤◌, List, [], ◌≡◌, length}
use Rattle.std.proofs.Math.Option.{none}
use Rattle.setup.specs.Setup.{setup_number, length_of}
use Rattle.setup.specs.declared.Setup.{Setup}
use Rattle.scan.specs.Scan.{Undecided}
use Rattle.scan.specs.Calls.{datagram, Report}
use Rattle.search.specs.Search.{verdict_of}
use Rattle.session.specs.Session.{opening}
use Rattle.admission.specs.Admission.{held_bytes}
use Rattle.admission.specs.SoundSession.{PassesTen}
use Rattle.session.specs.declared.Session.{Session}
use Rattle.feeding.specs.declared.Datagram.{Datagram}
use Rattle.feeding.specs.declared.Answer.TheVariants.{Waiting}
use Rattle.feeding.specs.Feed.{no_datagram, feed_of, call, Calls}

pub record OneLength : Type 0 where
  -- a piece of 0 bytes is taken and hands out nothing (the array of held bytes has 64, as in every session value)
  pub none_taken :
      (s : Session) → PassesTen s → length s.held ≡ 64
      → feed_of s [] ≡ record { answer = Waiting; taken = 0; session = s; datagram = no_datagram }
  -- nothing is decided yet of the bytes that a session holds
  pub held_undecided : (s : Session) → PassesTen s → Undecided (verdict_of s.setup) (held_bytes s)
  -- a datagram is handed out by the call that takes its last byte: it takes some, and nothing is held behind the datagram
  pub last_byte :
      (s : Session) → PassesTen s → (p : List ℕ) → (call s p).answer ≡ datagram (feed_of s p).datagram
      → (1 ≤ (feed_of s p).taken) × ((feed_of s p).session.count ≡ 0)
  -- fed in turn to the session that opening gives: the session counts the datagrams handed out, and
  -- datagram length × datagrams + bytes passed over + bytes held = bytes fed
  pub counted :
      (u : Setup) → setup_number u ≡ none
      → {ps : List (List ℕ)} {os : List Datagram} {rs : List Report} {t : Session} → Calls (opening u).session ps os rs t
      → (t.history.datagrams.0 ≡ length os) × (length_of u * length os + t.passed + t.count ≡ t.fed)
