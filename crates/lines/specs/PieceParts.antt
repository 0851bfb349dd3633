-- A helper of proofs, no rule of 01: what the functions that write the lines of a piece hand on from one to the next.
use Rattle.std.specs.Prelude.{ℕ, ◌+◌, ◌-◌, ◌*◌, ◌≤◌, ◌<◌, true, List, ◌≡◌, length, drop, Ok}
use Rattle.std.proofs.lemmas.List.Edits.{sets}
use Rattle.setup.specs.Setup.{ruling_on, length_of}
use Rattle.setup.specs.declared.Setup.{Setup}
use Rattle.shown_line.specs.ShownLine.{longest_line}
use Rattle.scan.specs.Scan.{Scanned, scan}
use Rattle.scan.specs.Carry.{steps, carried_after}
use Rattle.search.specs.Search.{limits_of, rules_of, verdict_of}
use Rattle.history.specs.History.{greatest_count}
use Rattle.admission.specs.Admission.{kept_right, piece_ruling}
use Rattle.session.specs.declared.Session.{Session}
use Rattle.feeding.specs.Feed.{consumer, state_of, session_of}
use Rattle.whole_piece.specs.Lines.{behind_by, room_for}
use Rattle.whole_piece.specs.NextLines.{next_line, text_of}
use Rattle.whole_piece.specs.declared.Batch.{Batch}
use Rattle.lines.specs.declared.Progress.{Progress}

-- what a session has at a place in a piece, so many bytes being written
abbrev pub start_of : Session → ℕ → ℕ → Progress
start_of s at used = record { history = s.history; passed = s.passed; at = at; used = used }

-- behind n bytes passed over and the datagram d
unfoldable pub next_of : Setup → Progress → ℕ → List ℕ → Progress
next_of u x n d =
    record {
      history = steps (consumer u) x.history d;
      passed = x.passed + n;
      at = x.at + (n + length d);
      used = x.used + length (next_line u x.history d);
    }

-- behind n bytes passed over, where no datagram follows
abbrev pub stopped : Progress → ℕ → Progress
stopped x n = record { history = x.history; passed = x.passed + n; at = x.at + n; used = x.used }

-- the answer, so many bytes being written before
unfoldable pub batch_by : Session → ℕ → Scanned → ℕ → Batch
batch_by s used g n =
    record {
      answer = Ok (used + length (text_of s.setup (state_of s).carried g));
      session = session_of s.setup (behind_by s g n);
    }

-- a piece of `end` bytes can be gone through from there on: its counts stay in range, and its lines find room
pub record Ready (u : Setup) (x : Progress) (end room : ℕ) : Type 0 where
  pub accepted : ruling_on u ≡ Ok tt
  pub within : x.at ≤ end
  pub most : end ≤ (limits_of u).piece
  pub kept : kept_right u x.history ≡ true
  pub few : length_of u * x.history.datagrams.0 + (end - x.at) ≤ (limits_of u).session
  pub passed : x.passed + (end - x.at) ≤ greatest_count
  pub roomy : longest_line * (end - x.at) + 18 * x.used ≤ 18 * room

-- the bytes from a place on, scanned
abbrev pub scan_at : Setup → List ℕ → ℕ → Scanned
scan_at u p at = scan (verdict_of u) (drop at p)

-- a piece was gone through from `start` on, the buffer b being b' then
pub record Finished (u : Setup) (start : Progress) (p b b' : List ℕ) (r : Progress) : Type 0 where
  pub kept : r.history ≡ carried_after (consumer u) start.history (scan_at u p start.at).datagrams
  pub passed : r.passed ≡ start.passed + (scan_at u p start.at).passed
  pub used : r.used ≡ start.used + length (text_of u start.history (scan_at u p start.at))
  pub text : b' ≡ sets b start.used (text_of u start.history (scan_at u p start.at))
  -- the bytes from its place on are held
  pub held : drop r.at p ≡ (scan_at u p start.at).held
  pub within : r.at ≤ length p
  pub short : length p < r.at + (rules_of u).greatest
  pub fits : r.used ≤ length b

-- the answer r and the buffer b' behind n bytes, of which the scan is g, so many bytes being written before
pub record Answered (s : Session) (used : ℕ) (g : Scanned) (n : ℕ) (b b' : List ℕ) (r : Batch) : Type 0 where
  pub batch : r ≡ batch_by s used g n
  pub text : b' ≡ sets b used (text_of s.setup (state_of s).carried g)
  pub fits : used + length (text_of s.setup (state_of s).carried g) ≤ length b

-- nothing refuses a piece of n bytes, whatever lines it has
pub record Permitted (s : Session) (n room : ℕ) : Type 0 where
  pub admitted : piece_ruling s n ≡ Ok tt
  pub enough : room_for n ≤ room
