-- What feeding a piece to its end and writing a line for each datagram gives, at once.
use Rattle.std.specs.Prelude.{ℕ, suc, ◌+◌, ◌*◌, ◌/◌, List, [], ◌∷◌, ◌++◌, length, drop, Result, Ok, Err}
use Rattle.std.proofs.Math.Option.{Option, none, some}
use Rattle.integers.specs.Bytes.{joined}
use Rattle.setup.specs.Setup.{Rule, first_of}
use Rattle.setup.specs.declared.Setup.{Setup}
use Rattle.shown_line.specs.ShownLine.{shown_text, room_rules, longest_line}
use Rattle.text.specs.TextLine.{shown_by}
use Rattle.shown_line.specs.declared.Shown.{Shown}
use Rattle.scan.specs.Scan.{Scanned, scan}
use Rattle.scan.specs.Carry.{told, carried_after}
use Rattle.search.specs.Search.{verdict_of}
use Rattle.admission.specs.Admission.{held_bytes, piece_rules}
use Rattle.session.specs.declared.Session.{Session}
use Rattle.feeding.specs.Feed.{consumer, SessionState, state_of, session_of}
use Rattle.feeding.specs.declared.Datagram.{Datagram}
use Rattle.whole_piece.specs.declared.Batch.{Batch}
use Rattle.refusals.specs.Refusals.{number_of, Ruling}
use Rattle.refusals.specs.declared.Refusal.{Refusal}

-- the line of a datagram that came back, under its ordinal, with the fields that are shown
abbrev pub line_by : Shown → ℕ → Datagram → List ℕ
line_by shown ordinal o =
    shown_text shown ordinal o.fields.counter o.fields.latency o.gap (o.gyro ∷ o.accelerometer ∷ o.inclinometer ∷ []) o.fields.statuses
    o.totals

-- of a setup
abbrev pub line_of : Setup → ℕ → Datagram → List ℕ
line_of u ordinal o = line_by (shown_by u) ordinal o

-- the lines of datagrams that came back after n others
unfoldable pub lines_after : Setup → ℕ → List Datagram → List ℕ
lines_after u n [] = []
lines_after u n (o ∷ os) = line_of u (suc n) o ++ lines_after u (suc n) os

-- the scan of the bytes held and the whole piece
abbrev pub found_in : Session → List ℕ → Scanned
found_in s p = scan (verdict_of s.setup) (held_bytes s ++ p)

-- what comes back with its datagrams, and their lines
abbrev pub answers_in : Session → List ℕ → List Datagram
answers_in s p = told (consumer s.setup) (state_of s).carried (found_in s p).datagrams

unfoldable pub lines_in : Session → List ℕ → List ℕ
lines_in s p = lines_after s.setup s.history.datagrams.0 (answers_in s p)

-- what a session stands for behind n bytes, of which, with those held, the scan is g; and behind the piece
abbrev pub behind_by : Session → Scanned → ℕ → SessionState
behind_by s g n =
    record {
      scan =
          record {
            held = g.held;
            handed = (state_of s).scan.handed + length (joined g.datagrams);
            passed = s.passed + g.passed;
            fed = s.fed + n;
          };
      carried = carried_after (consumer s.setup) (state_of s).carried g.datagrams;
    }

abbrev pub behind : Session → List ℕ → SessionState
behind s p = behind_by s (found_in s p) (length p)

-- a buffer of so many bytes is long enough for the lines of a piece of n bytes: with the held ones, 64 at most, it completes (n + 64) / 18 datagrams at most
abbrev pub room_for : ℕ → ℕ
room_for n = (n + 64) / 18 * longest_line

-- and for those of any piece
abbrev pub enough : ℕ
enough = 72000

-- the answer: refused by 10, 11 or 12 as by feed, by 14 where the buffer is shorter than the lines; or the lines
abbrev pub refusing : Session → Refusal → Batch
refusing s e = record { answer = Err e; session = s }

abbrev pub batch_with : Ruling → Session → List ℕ → Batch
batch_with (Ok accepted) s p = record { answer = Ok (length (lines_in s p)); session = session_of s.setup (behind s p) }
batch_with (Err e) s p = refusing s e

abbrev pub batch_rules : Session → List ℕ → ℕ → List Rule
batch_rules s p room = piece_rules s (length p) ++ room_rules (lines_in s p) room

unfoldable pub batch_of : Session → List ℕ → ℕ → Batch
batch_of s p room = batch_with (first_of (batch_rules s p room)) s p

-- 01's number of an answer, none where the lines stand in the buffer; and how many bytes they have
abbrev pub received_number : Result ℕ Refusal → Option ℕ
received_number (Ok n) = none
received_number (Err e) = some (number_of e)

abbrev pub received_bytes : Result ℕ Refusal → ℕ
received_bytes (Ok n) = n
received_bytes (Err e) = 0

-- the buffer at exit: the lines from the front and every later byte as it was, or all as it was
abbrev pub buffer_by : Result ℕ Refusal → List ℕ → List ℕ → List ℕ
buffer_by (Ok n) text b = text ++ drop n b
buffer_by (Err e) text b = b

unfoldable pub batch_buffer : Session → List ℕ → List ℕ → List ℕ
batch_buffer s p b = buffer_by (batch_of s p (length b)).answer (lines_in s p) b
