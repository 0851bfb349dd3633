-- What the rules say that the other promises are stated by, as facts: so that a rule that is wrong in its definition and in the code alike is shut out
-- here (01, The setup line; Layout by identifier; The scan; Status, doubles, gaps; Totals; The text line; Bench cases; 02, 2.1 to 2.3, 2.5, 2.6).
use Rattle.std.specs.Prelude.{ℕ, suc, ◌+◌, ◌*◌, ◌/◌, ◌%◌, ◌^◌, ◌≤◌, ◌<◌, Bool, true, false, ◌||◌, cond, List, [], ◌∷◌, ◌++◌, ◌≡◌, eqb, ℤ, pos, ◌+ℤ◌, ◌*ℤ◌, ◌≤ℤ◌, ◌<ℤ◌, length, get_or, replicate}
use Rattle.std.proofs.Math.Option.{none, some}
use Rattle.integers.specs.Bytes.{AllBytes, big_endian}
use Rattle.integers.specs.Folding.{fold}
use Rattle.integers.specs.Ranges.{in_reading}
use Rattle.integers.specs.Rounding.{floor}
use Rattle.crc.specs.Check.{stim300, check_of}
use Rattle.setup.specs.Layout.{gyro, gyro_temperatures, aux, table, parts_at, carries}
use Rattle.setup.specs.Setup.{setup_number, length_of}
use Rattle.setup.specs.AcceptedSetup.{line_of_table, PassesNine}
use Rattle.setup.specs.declared.Setup.{Setup}
use Rattle.wire.specs.Fields.{groups, temperature_sets, fields_of}
use Rattle.made_datagram.specs.Making as making
use Rattle.made_datagram.specs.PassedValues.{PassesFifteen}
use Rattle.made_datagram.specs.Worked.{Worked}
use Rattle.made_datagram.specs.declared.Values.{Values}
use Rattle.gaps.specs.Gaps.{datagrams, elapsed, missed_at}
use Rattle.motion.specs.Status.{is_set, fit}
use Rattle.motion.specs.Judgements.{applies, judgement_of, is_fit, JudgedCases}
use Rattle.motion.specs.declared.Judgement.TheVariants.{Fit, Integrity, StartUp, Error, Overload}
use Rattle.motion.specs.Totals.{keeps}
use Rattle.motion.specs.Totals.{Totals}
use Rattle.doubles.specs.Starred.{Starred}
use Rattle.doubt.specs.DoubtRules.{DoubtRules}
use Rattle.shown_line.specs.ShownLine.{outside}
use Rattle.shown_line.specs.PassedLine.{PassesThirteen}
use Rattle.printed_value.specs.PrintedValue.{value_text}
use Rattle.printed_value.specs.Prints.{Prints}
use Rattle.printed_value.specs.WorkedValues.{WorkedValues}
use Rattle.search.specs.Search.{is_datagram}

-- the bytes of an acceptable datagram of a setup: the identifier and what else stands before the check, as many as its line of the table says;
-- the check of these, most significant byte first; with termination 1 the ending
pub record MadeUp (u : Setup) (d : List ℕ) : Type 0 where
  pub line : ℕ
  pub listed : line < length table
  pub identifier : u.identifier ≡ (line_of_table line).identifier
  pub body : List ℕ
  pub check : List ℕ
  pub whole : d ≡ (u.identifier ∷ body) ++ (check ++ cond (eqb u.termination 1) (0x0D ∷ 0x0A ∷ []) [])
  pub bytes : AllBytes d
  pub before : suc (length body) ≡ (line_of_table line).before
  pub four : length check ≡ 4
  pub right : big_endian check ≡ check_of stim300 (u.identifier ∷ body)

pub record PaperRules : Type 0 where
  -- 4 to 9: accepted is a setup of which no clause fails, and no other
  pub accepted : (u : Setup) → setup_number u ≡ none → PassesNine u
  pub accepts : (u : Setup) → PassesNine u → setup_number u ≡ none
  -- the length L is the table's number plus 4, plus 2 with termination 1
  pub length_of_lem :
      (u : Setup) → setup_number u ≡ none → (k : ℕ) → k < length table → u.identifier ≡ (line_of_table k).identifier
      → length_of u ≡ (line_of_table k).before + 4 + cond (eqb u.termination 1) 2 0
  -- a part that the identifier doesn't carry comes back as 0
  pub absent_group :
      (i : ℕ) (d : List ℕ) (g : ℕ) → g < 3 → carries (parts_at i) (get_or groups g gyro) ≡ false
      → (get_or (fields_of i d).readings g [] ≡ replicate 3 (pos 0)) × (get_or (fields_of i d).statuses g 0 ≡ 0)
  pub absent_temperatures :
      (i : ℕ) (d : List ℕ) (g : ℕ) → g < 3 → carries (parts_at i) (get_or temperature_sets g gyro_temperatures) ≡ false
      → (get_or (fields_of i d).temperatures g [] ≡ replicate 3 (pos 0)) × (get_or (fields_of i d).temperature_statuses g 0 ≡ 0)
  pub absent_aux : (i : ℕ) (d : List ℕ) → carries (parts_at i) aux ≡ false → ((fields_of i d).aux ≡ pos 0) × ((fields_of i d).aux_status ≡ 0)
  -- an acceptable datagram is made up so, what is made up so is one, and there is one for every setup that is not refused
  pub made_up : (u : Setup) → setup_number u ≡ none → (d : List ℕ) → is_datagram u d ≡ true → MadeUp u d
  pub acceptable : (u : Setup) → setup_number u ≡ none → (d : List ℕ) → MadeUp u d → is_datagram u d ≡ true
  pub some_datagram : (u : Setup) → setup_number u ≡ none → (d : List ℕ) × (is_datagram u d ≡ true)
  -- an axis is unfit if bit 7 or 6 is set, or if bit 3 or 4 is set together with the axis's bit, or with bits 0 to 2 all clear; else fit
  pub unfit_all : (status axis : ℕ) → (is_set status 7 || is_set status 6) ≡ true → fit status axis ≡ false
  pub unfit_named : (status axis : ℕ) → (is_set status 3 || is_set status 4) ≡ true → is_set status axis ≡ true → fit status axis ≡ false
  pub unfit_none_flagged :
      (status axis : ℕ) → (is_set status 3 || is_set status 4) ≡ true → ((other : ℕ) → other < 3 → is_set status other ≡ false)
      → fit status axis ≡ false
  pub fit_unnamed :
      (status axis : ℕ) → (is_set status 7 || is_set status 6) ≡ false → is_set status axis ≡ false
      → (other : ℕ) → other < 3 → is_set status other ≡ true → fit status axis ≡ true
  pub fit_clear : (status axis : ℕ) → (is_set status 7 || is_set status 6) ≡ false → (is_set status 3 || is_set status 4) ≡ false → fit status axis ≡ true
  -- the judgement of an axis is fit exactly if the axis is fit; of an unfit one it is the first that applies: integrity by bit 7, start-up by bit 6, error
  -- by bit 3, else overload, as bits 3 and 4 name the same axes
  pub judged_fit : (status axis : ℕ) → is_fit (judgement_of status axis) ≡ fit status axis
  pub judged_integrity : (status axis : ℕ) → is_set status 7 ≡ true → judgement_of status axis ≡ Integrity
  pub judged_start_up : (status axis : ℕ) → is_set status 7 ≡ false → is_set status 6 ≡ true → judgement_of status axis ≡ StartUp
  pub judged_error :
      (status axis : ℕ) → (is_set status 7 || is_set status 6) ≡ false → is_set status 3 ≡ true → fit status axis ≡ false
      → judgement_of status axis ≡ Error
  pub judged_overload :
      (status axis : ℕ) → (is_set status 7 || is_set status 6) ≡ false → is_set status 3 ≡ false → fit status axis ≡ false
      → judgement_of status axis ≡ Overload
  -- the judgement that is named applies, and fit nowhere else; cases in numbers; the axes of a group that the identifier doesn't carry are fit
  pub judged_applies : (status axis : ℕ) → applies status axis (judgement_of status axis) ≡ true
  pub fit_applies : (status axis : ℕ) → applies status axis Fit ≡ is_fit (judgement_of status axis)
  pub judged_cases : JudgedCases
  pub judged_absent :
      (i : ℕ) (d : List ℕ) (g : ℕ) → g < 3 → carries (parts_at i) (get_or groups g gyro) ≡ false
      → (axis : ℕ) → judgement_of (get_or (fields_of i d).statuses g 0) axis ≡ Fit
  -- d, from 1 to 256, is the new counter minus the previous modulo 256
  pub elapsed_samples :
      (previous counter : ℕ) → previous < 256 → counter < 256
      → (1 ≤ (elapsed previous counter).0) × ((elapsed previous counter).0 ≤ 256) × ((previous + (elapsed previous counter).0) % 256 ≡ counter)
  -- n datagrams were missed if d is n + 1 steps; none is told if it is no whole number of steps; 0 for a first one and under external trigger
  pub missed :
      (rate previous counter n : ℕ) → 0 < rate → rate ≤ 2000 → (elapsed previous counter).0 ≡ (n + 1) * (2000 / rate)
      → missed_at rate false previous counter ≡ some (datagrams n)
  pub off_step :
      (rate previous counter : ℕ) → 0 < rate → ((elapsed previous counter).0 % (2000 / rate) ≡ 0 → ⊥) → missed_at rate false previous counter ≡ none
  pub first_missed : (rate previous counter : ℕ) → missed_at rate true previous counter ≡ some (datagrams 0)
  pub trigger_missed : (first : Bool) (previous counter : ℕ) → missed_at 0 first previous counter ≡ some (datagrams 0)
  -- totals are kept of the groups set to integrated, and of no other
  pub kept : (u : Setup) → setup_number u ≡ none → (group : ℕ) → group < 3 → get_or u.units group 0 ≡ 3 → keeps u group ≡ true
  pub not_kept : (u : Setup) → setup_number u ≡ none → (group : ℕ) → (get_or u.units group 0 ≡ 3 → ⊥) → keeps u group ≡ false
  -- the sum and the mark of a gyro axis, clause by clause
  pub doubt : DoubtRules
  -- 13: it lets pass values of a line of which no clause fails, and no others
  pub inside :
      (ordinal : ℕ) (readings : List (List ℤ)) (totals : Totals) → outside ordinal readings totals ≡ false → PassesThirteen ordinal readings totals
  pub passes :
      (ordinal : ℕ) (readings : List (List ℤ)) (totals : Totals) → PassesThirteen ordinal readings totals → outside ordinal readings totals ≡ false
  -- 15: it lets pass values of a datagram of which no clause fails, and no others
  pub inside_widths : (u : Setup) (readings : List (List ℤ)) (v : Values) → making.outside u readings v ≡ false → PassesFifteen u readings v
  pub passes_widths : (u : Setup) (readings : List (List ℤ)) (v : Values) → PassesFifteen u readings v → making.outside u readings v ≡ false
  -- a datagram that carries every part, byte by byte
  pub worked : Worked
  -- the text of a value is what 2.6 says that it is, and no other text is
  pub printed : (n : ℤ) (shift places : ℕ) → Prints n shift places (value_text n shift places)
  pub printed_only : (n : ℤ) (shift places : ℕ) {t : List ℕ} → Prints n shift places t → t ≡ value_text n shift places
  -- `-` stands exactly before a number below 0 of which a nonzero digit is printed
  pub printed_sign :
      (n : ℤ) (shift places : ℕ) {t : List ℕ} (p : Prints n shift places t)
      → (p.minus ≡ true → n <ℤ pos 0) × (n <ℤ pos 0 → 0 < p.printed → p.minus ≡ true)
  -- and texts worked out by hand
  pub printed_cases : WorkedValues
  -- rounded down is the greatest whole number not above
  pub not_above : (z : ℤ) (d : ℕ) → 0 < d → (floor z d *ℤ pos d) ≤ℤ z
  pub greatest : (z q : ℤ) (d : ℕ) → 0 < d → (q *ℤ pos d) ≤ℤ z → q ≤ℤ (floor z d)
  -- folding brings a whole number modulo 2 ^ 24 into 24 bits
  pub folded : (z : ℤ) → (in_reading (fold z) ≡ true) × ((k : ℤ) × (z ≡ fold z +ℤ (k *ℤ pos (2 ^ 24))))
  -- the starred bench cases
  pub starred : Starred
