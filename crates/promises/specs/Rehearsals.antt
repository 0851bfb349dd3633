-- 02, 2.1, rehearsals: what stands in a line that says what a datagram is to carry. The form of the line is this project's own (docs/DECISIONS.md).
use Rattle.std.specs.Prelude.{ℕ, ◌≤◌, ◌<◌, List, ◌≡◌, ℤ}
use Rattle.integers.specs.Bytes.{Sign}
use Rattle.integers.specs.Ranges.{is_zero, fits}
use Rattle.gaps.specs.declared.Gap.{Gap}
use Rattle.motion.specs.Totals.{Totals}
use Rattle.shown_line.specs.declared.Shown.{Shown}
use Rattle.rehearsal.specs.RehearsalLine.{nearest}
use Rattle.rehearsal.specs.SentAgain.{Printable, SentAgain}
use Rattle.rehearsal.specs.WorkedLine.{WorkedLine}

pub record Rehearsals : Type 0 where
  -- a text line that can be printed is a rehearsal line, and says the numbers that it shows
  pub sent_again :
      (shown : Shown) (ordinal counter latency : ℕ) (gap : Gap) (readings : List (List ℤ)) (statuses : List ℕ) (totals : Totals)
      → Printable ordinal counter latency gap readings statuses totals → SentAgain shown ordinal counter latency gap readings statuses totals
  -- one of 39 fields, field by field
  pub worked : WorkedLine
  -- a number that 32 bits don't hold is judged by 15 as the number itself would be
  pub nearest_fits : (s : Sign) (w : ℕ) (z : ℤ) → 0 < w → w ≤ 3 → fits s w (nearest z) ≡ fits s w z
  pub nearest_zero : (z : ℤ) → is_zero (nearest z) ≡ is_zero z
