-- A text line that was printed can be sent again as it stands, as a rehearsal line. Group g and axis a are counted from 0.
use Rattle.std.specs.Prelude.{ℕ, ◌^◌, ◌<◌, false, cond, List, [], ◌≡◌, ℤ, pos, get_or}
use Rattle.gaps.specs.declared.Gap.{Gap}
use Rattle.gaps.specs.declared.Gap.TheVariants.{Missed}
use Rattle.gaps.specs.declared.Datagrams.{Datagrams}
use Rattle.motion.specs.Totals.{Totals}
use Rattle.shown_line.specs.ShownLine.{shown_fields, parted, outside}
use Rattle.shown_line.specs.declared.Shown.{Shown}
use Rattle.made_datagram.specs.PassedValues.{temperatures_of}
use Rattle.rehearsal.specs.RehearsalLine.{readings_in, values_in, rehearsal_of}
use Rattle.std.specs.Prelude.{Ok}

-- what is printed: numbers of their types, which 13 doesn't refuse
pub record Printable (ordinal counter latency : ℕ) (gap : Gap) (readings : List (List ℤ)) (statuses : List ℕ) (totals : Totals) : Type 0 where
  pub ordinal_fits : ordinal < 2 ^ 64
  pub counter_fits : counter < 256
  pub latency_fits : latency < 65536
  pub missed_fits : (count : Datagrams) → gap ≡ Missed count → count.0 < 2 ^ 64
  pub statuses_fit : (g : ℕ) → get_or statuses g 0 < 256
  pub inside : outside ordinal readings totals ≡ false

-- a number of a group that is shown, and 0 of another
abbrev pub if_shown : Shown → ℕ → ℤ → ℤ
if_shown shown g z = cond (get_or shown.carried g false) z (pos 0)

module _ (shown : Shown) (ordinal counter latency : ℕ) (gap : Gap) (readings : List (List ℤ)) (statuses : List ℕ) (totals : Totals) where
  -- the line, without its 0x0A
  abbrev pub printed : List ℕ
  printed = parted (shown_fields shown ordinal counter latency gap readings statuses totals)

  pub record SentAgain : Type 0 where
    pub written : rehearsal_of printed ≡ Ok tt
    -- it says the numbers that it was printed of
    pub same_counter : (values_in printed).counter ≡ pos counter
    pub same_latency : (values_in printed).latency ≡ pos latency
    pub same_reading :
        (g a : ℕ) → g < 3 → a < 3 → get_or (get_or (readings_in printed) g []) a (pos 0) ≡ if_shown shown g (get_or (get_or readings g []) a (pos 0))
    pub same_status : (g : ℕ) → g < 3 → get_or (values_in printed).statuses g (pos 0) ≡ if_shown shown g (pos (get_or statuses g 0))
    -- and 0 for all that a text line doesn't show
    pub no_temperature : (g a : ℕ) → g < 3 → a < 3 → get_or (temperatures_of (values_in printed) g) a (pos 0) ≡ pos 0
    pub no_temperature_status : (g : ℕ) → g < 3 → get_or (values_in printed).temperature_statuses g (pos 0) ≡ pos 0
    pub no_aux : (values_in printed).aux ≡ pos 0
    pub no_aux_status : (values_in printed).aux_status ≡ pos 0
