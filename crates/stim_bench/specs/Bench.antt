-- A helper of proofs, no rule of 01: what the contracts of the bench program cite.
use Rattle.std.specs.Prelude.{ℕ, ◌+◌, ◌≤◌, ◌<◌, min, ◌≡◌, true, List, ◌++◌, length, take, drop, Ok}
use Rattle.setup_line.specs.SetupLine.{line_read, line_end}
use Rattle.search.specs.Search.{limits_of}
use Rattle.session.specs.Session.{opening}
use Rattle.session.specs.declared.Session.{Session}
use Rattle.admission.specs.Admission.{is_sound}
use Rattle.feeding.specs.Feed.{session_of}
use Rattle.whole_piece.specs.Lines.{lines_in, behind}
use Rattle.stim_bench.specs.declared.PartFed.{PartFed}
use Rattle.stim_bench.specs.declared.Gathered.{Gathered}

-- the first line, without its 0x0A
abbrev pub first_line : List ℕ → List ℕ
first_line l = take (line_end l) l

-- the first line of the bytes l is an accepted setup line, s is the session that it opens, and the stream begins behind its 0x0A
pub record Opens (l : List ℕ) (s : Session) (from : ℕ) : Type 0 where
  pub accepted : (line_read (first_line l)).answer ≡ Ok tt
  pub session : s ≡ (opening (line_read (first_line l)).setup).session
  pub place : from ≡ min (line_end l + 1) (length l)

-- feeding doesn't turn the session down by 10, and n more bytes don't pass its limit
pub record Feedable (s : Session) (n : ℕ) : Type 0 where
  pub sound : is_sound s ≡ true
  pub room : s.fed + n ≤ (limits_of s.setup).session

-- feeding doesn't turn the session down by 10, and by 12 just what is longer than n bytes
pub record HasLeft (s : Session) (n : ℕ) : Type 0 where
  pub sound : is_sound s ≡ true
  pub room : s.fed + n ≡ (limits_of s.setup).session

-- the session behind bytes of any number: by the scan of the bytes held and all of these at once
unfoldable pub fed_with : Session → List ℕ → Session
fed_with s p = session_of s.setup (behind s p)

-- what feeding a part gives
abbrev pub part_lines : Session → List ℕ → PartFed
part_lines s p = record { session = fed_with s p; used = length (lines_in s p) }

-- a buffer with a text at its front and every later byte as it was
abbrev pub with_text : List ℕ → List ℕ → List ℕ
with_text text b = text ++ drop (length text) b

-- the first bytes of p were fed, some if there are any: the session behind them, and their lines at the front of the buffer, which was b and is b'
pub record IsGathered (s : Session) (p b b' : List ℕ) (r : Gathered) : Type 0 where
  pub within : r.taken ≤ length p
  pub some : 0 < length p → 0 < r.taken
  pub session : r.session ≡ fed_with s (take r.taken p)
  pub used : r.used ≡ length (lines_in s (take r.taken p))
  pub text : b' ≡ with_text (lines_in s (take r.taken p)) b
