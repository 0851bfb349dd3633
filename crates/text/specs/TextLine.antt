-- 01, The text line, of a datagram under a setup; and 'What is turned down': 4 to 9 for the line's setup, then 13 and 14.
use Rattle.std.specs.Prelude.{ℕ, List, ◌++◌, ℤ, length, Result}
use Rattle.setup.specs.Layout.{groups_of, groups_carried}
use Rattle.setup.specs.Setup.{Rule, first_of, buffer_by, setup_rules}
use Rattle.setup.specs.declared.Setup.{Setup}
use Rattle.setup.specs.declared.Row.{Row}
use Rattle.setup.specs.Sensor.{Units}
use Rattle.gaps.specs.declared.Gap.{Gap}
use Rattle.motion.specs.Totals.{groups_kept, kept_by}
use Rattle.motion.specs.Totals.{Totals}
use Rattle.shown_line.specs.ShownLine.{shown_text, shown_rules, written_by}
use Rattle.shown_line.specs.declared.Shown.{Shown}
use Rattle.refusals.specs.Refusals.{Ruling}
use Rattle.refusals.specs.declared.Refusal.{Refusal}

-- what a setup shows: the groups that it carries, and the totals of those that it keeps
unfoldable pub shown_by : Setup → Shown
shown_by setup = record { carried = groups_carried setup.identifier; kept = groups_kept setup }

-- the same of a sensor, by what its datagrams carry and the units of the groups
unfoldable pub shown_of : Row → Units → Shown
shown_of row units = record { carried = groups_of row; kept = kept_by row units }

-- ---- the line

-- the line of a datagram under a setup
unfoldable pub line_text : Setup → ℕ → ℕ → ℕ → Gap → List (List ℤ) → List ℕ → Totals → List ℕ
line_text setup ordinal counter latency gap readings statuses totals =
    shown_text (shown_by setup) ordinal counter latency gap readings statuses totals

-- ---- what is turned down

-- the rules of the setup come first
unfoldable pub line_rules : Setup → ℕ → List (List ℤ) → Totals → List ℕ → ℕ → List Rule
line_rules setup ordinal readings totals text room = setup_rules setup ++ shown_rules ordinal readings totals text room

-- ---- the answer and the buffer

module _ (b : List ℕ) (setup : Setup) (ordinal counter latency : ℕ) (gap : Gap) (readings : List (List ℤ)) (statuses : List ℕ) (totals : Totals) where
  unfoldable pub line_ruling : Ruling
  line_ruling = first_of (line_rules setup ordinal readings totals (line_text setup ordinal counter latency gap readings statuses totals) (length b))

  unfoldable pub line_answer : Result ℕ Refusal
  line_answer = written_by line_ruling (line_text setup ordinal counter latency gap readings statuses totals)

  unfoldable pub line_buffer : List ℕ
  line_buffer = buffer_by line_ruling (line_text setup ordinal counter latency gap readings statuses totals) b
