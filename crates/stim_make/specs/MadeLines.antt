-- A helper of proofs, no rule of 02: what the contracts of the program that makes datagrams cite, the datagrams of the lines among bytes, and how the
-- program keeps a line.
use Rattle.std.specs.Prelude.{ℕ, ◌+◌, ◌≤◌, ◌<◌, min, ◌≡◌, Bool, true, false, cond, List, [], ◌∷◌, ◌++◌, eqb, ltb, length, take, drop, Result, Ok, Err}
use Rattle.setup.specs.declared.Setup.{Setup}
use Rattle.setup_line.specs.SetupLine.{line_end}
use Rattle.made_datagram.specs.Making.{made_datagram, outside}
use Rattle.rehearsal.specs.RehearsalLine.{readings_in, values_in, rehearsal_of}
use Rattle.rehearsal.specs.declared.Fault.{Fault}
use Rattle.stim_make.specs.declared.line.Line.{Line}
use Rattle.stim_make.specs.declared.Taken.{Taken}
use Rattle.stim_make.specs.declared.Behind.{Behind}

-- ---- the datagrams of lines

-- the datagram of a line that is written as it should be and whose values fit, and of another none
abbrev pub made_with : Result (Unit {0}) Fault → Bool → List ℕ → List ℕ
made_with (Ok accepted) false datagram = datagram
made_with (Ok accepted) true datagram = []
made_with (Err fault) outside datagram = []

unfoldable pub datagram_of : Setup → List ℕ → List ℕ
datagram_of u line = made_with (rehearsal_of line) (outside u (readings_in line) (values_in line)) (made_datagram u (readings_in line) (values_in line))

-- the datagrams of the lines that end among bytes, the first of which has begun with h
unfoldable pub datagrams_in : Setup → List ℕ → List ℕ → List ℕ
datagrams_in u h [] = []
datagrams_in u h (b ∷ s) = cond (eqb b 0x0A) (datagram_of u h ++ datagrams_in u [] s) (datagrams_in u (h ++ b ∷ []) s)

-- the line under way behind them, and its number if that of the first is n; the numbers end with 64 bits
unfoldable pub line_in : List ℕ → List ℕ → List ℕ
line_in h [] = h
line_in h (b ∷ s) = cond (eqb b 0x0A) (line_in [] s) (line_in (h ++ b ∷ []) s)

abbrev pub next_number : ℕ → ℕ
next_number n = cond (ltb n 18446744073709551615) (n + 1) n

unfoldable pub number_in : ℕ → List ℕ → ℕ
number_in n [] = n
number_in n (b ∷ s) = cond (eqb b 0x0A) (number_in (next_number n) s) (number_in n s)

-- ---- the program

-- the bytes of a line that are kept
abbrev pub line_of : Line → List ℕ
line_of l = take l.used l.bytes

-- a buffer with a text at its front and every later byte as it was
abbrev pub with_text : List ℕ → List ℕ → List ℕ
with_text text b = text ++ drop (length text) b

-- the line l is kept of h, by its first 513 bytes
pub record Keeps (l : Line) (h : List ℕ) : Type 0 where
  pub size : l.used ≡ min (length h) 513
  pub bytes : line_of l ≡ take 513 h

-- the first bytes of s were taken, some if there are any: the line under way behind them, and their datagrams at the front of the buffer, which was b
-- and is b'
pub record IsTaken (u : Setup) (l : Line) (s b b' : List ℕ) (r : Taken) : Type 0 where
  pub within : r.taken ≤ length s
  pub some : 0 < length s → 0 < r.taken
  pub number : r.line.number ≡ number_in l.number (take r.taken s)
  pub line : Keeps r.line (line_in (line_of l) (take r.taken s))
  pub made : r.made ≡ length (datagrams_in u (line_of l) (take r.taken s))
  pub text : b' ≡ with_text (datagrams_in u (line_of l) (take r.taken s)) b

-- bytes were taken, all of them: the line under way behind them
pub record AreFed (l : Line) (s : List ℕ) (l' : Line) : Type 0 where
  pub number : l'.number ≡ number_in l.number s
  pub line : Keeps l' (line_in (line_of l) s)

-- the rehearsal lines lie behind the first 0x0A of the bytes that came into the buffer
abbrev pub LiesBehind : List ℕ → Behind → Type 0
LiesBehind input b = (b.from ≡ line_end (take b.filled input) + 1) × (b.from ≤ b.filled) × (b.filled ≤ length input)
