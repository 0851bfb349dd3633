-- A text line that was printed is a rehearsal line, and says the numbers that it was printed of.
use Prim.Native.Nat.{ℕ, ◌+◌, ◌^◌, ◌≤◌, ◌<◌}
use native.Mathlib.Omega.{arith}
use mathlib.Core.Bool.{Bool, true, false, ◌&&◌, ◌||◌, cond}
use mathlib.Core.List.{List, [], ◌∷◌, ◌++◌}
use mathlib.Core.Path.{◌≡◌, refl, ap, ◌∙◌}
use lib.Dec.{eqb}
use lib.IntN.{ℤ, pos}
use lib.ListN.{length, length-append, get_or}
use borrow.Author.Tests.{le-ltb}
use Rattle.integers.proofs.Booleans.{or_true}
use Rattle.integers.proofs.Parts.{pos_part, neg_part}
use Rattle.integers.proofs.Ranges.{in_reading_true}
use Rattle.setup.proofs.Refusals.{each}
use Rattle.setup_line.specs.SetupLine.{fields_of}
use Rattle.gaps.specs.declared.Gap.{Gap}
use Rattle.gaps.specs.declared.Gap.TheVariants.{Missed, OffStep}
use Rattle.gaps.specs.declared.Datagrams.{Datagrams}
use Rattle.motion.specs.declared.Total.{Total}
use Rattle.motion.specs.Totals.{GroupTotals}
use Rattle.motion.specs.Totals.{Totals}
use Rattle.shown_line.specs.Decimal.{digits, decimal}
use Rattle.shown_line.specs.ShownLine.{shown_if, missed_field, total_field, group_fields, groups_fields, shown_fields, shown_text}
use Rattle.shown_line.specs.declared.Shown.{Shown}
use Rattle.shown_line.proofs.Answers.{inside}
use Rattle.shown_line.proofs.Longest.{MissedFits, shown_longest}
use Rattle.shown_line.proofs.Parting.{line_count, line_fields}
use Rattle.shown_line.proofs.Thirteen.{inside_passes}
use Rattle.made_datagram.specs.PassedValues.{temperatures_of}
use Rattle.rehearsal.specs.RehearsalLine.{field_written, number_value, nearest, value_at, readings_in, values_in, all_written, longest, rehearsal_of}
use Rattle.rehearsal.specs.SentAgain.{Printable, printed, if_shown, SentAgain}
use Rattle.std.specs.Prelude.{Ok}
use Rattle.rehearsal.proofs.Decimals.{shown_written, shown_value}

-- ---- every field is written as it should be

abbrev AllNumbers : List (List ℕ) → Type 0
AllNumbers [] = Unit {0}
AllNumbers (f ∷ fs) = (field_written f ≡ true) × AllNumbers fs

numbers_written : (k : ℕ) (fs : List (List ℕ)) → AllNumbers fs → all_written k fs ≡ true
unfolding all_written
numbers_written k [] a = refl
numbers_written k (f ∷ fs) a = rw a.0 (numbers_written (k + 1) fs a.1)

digits_field : (t : Bool) (n : ℕ) → field_written (shown_if t (digits n)) ≡ true
unfolding decimal
digits_field t n = shown_written t (pos n)

group_numbers : (carried kept : Bool) (row : List ℤ) (status : ℕ) (t : GroupTotals) (fs : List (List ℕ)) → AllNumbers fs
    → AllNumbers (group_fields carried kept row status t ++ fs)
unfolding group_fields
group_numbers carried kept row status t fs rest =
    let axis : (i : ℕ) → field_written (shown_if carried (decimal (get_or row i (pos 0)))) ≡ true = λ i. shown_written carried (get_or row i (pos 0)) in
    let total : (t : Total) → field_written (total_field (carried && kept) t) ≡ true = λ t. shown_written (carried && kept && t.begun) t.steps in
    (axis 0, (axis 1, (axis 2, (digits_field carried status, (total t.x, (total t.y, (total t.z, rest)))))))

groups_numbers : (carried kept : List Bool) (readings : List (List ℤ)) (statuses : List ℕ) (totals : Totals)
    → AllNumbers (groups_fields carried kept readings statuses totals)
unfolding groups_fields group_fields
groups_numbers carried kept readings statuses totals =
    let accelerometer = group_fields (get_or carried 1 false) (get_or kept 1 false) (get_or readings 1 []) (get_or statuses 1 0) totals.accelerometer in
    let inclinometer = group_fields (get_or carried 2 false) (get_or kept 2 false) (get_or readings 2 []) (get_or statuses 2 0) totals.inclinometer in
    group_numbers (get_or carried 0 false) (get_or kept 0 false) (get_or readings 0 []) (get_or statuses 0 0) totals.gyro (accelerometer ++ inclinometer)
    (group_numbers (get_or carried 1 false) (get_or kept 1 false) (get_or readings 1 []) (get_or statuses 1 0) totals.accelerometer inclinometer
    (group_numbers (get_or carried 2 false) (get_or kept 2 false) (get_or readings 2 []) (get_or statuses 2 0) totals.inclinometer [] tt))

-- missed may be `?`
missed_written : (gap : Gap) → (field_written (missed_field gap) || (eqb 3 3 && eqb (length (missed_field gap)) 1 && eqb (get_or (missed_field gap) 0 0) 0x3F)) ≡ true
missed_written (Missed count) = rw (digits_field true count.0)
missed_written OffStep = or_true (field_written (0x3F ∷ [])) refl

missed_fits : (gap : Gap) → ((count : Datagrams) → gap ≡ Missed count → count.0 < 2 ^ 64) → MissedFits gap
missed_fits (Missed count) h = h count refl
missed_fits OffStep h = tt

-- ---- the line

module _ (shown : Shown) (ordinal counter latency : ℕ) (gap : Gap) (readings : List (List ℤ)) (statuses : List ℕ) (totals : Totals) where
  abbrev line : List ℕ
  line = printed shown ordinal counter latency gap readings statuses totals

  abbrev fields : List (List ℕ)
  fields = shown_fields shown ordinal counter latency gap readings statuses totals

  -- its fields are those that it was printed of
  same_fields : fields_of line ≡ fields
  same_fields = line_fields shown ordinal counter latency gap readings statuses totals

  fields_written : all_written 0 fields ≡ true
  unfolding shown_fields all_written
  fields_written =
      rw (digits_field true ordinal, digits_field true counter, digits_field true latency, missed_written gap)
      (numbers_written 4 (groups_fields shown.carried shown.kept readings statuses totals)
      (groups_numbers shown.carried shown.kept readings statuses totals))

  line_written_lem : length line ≤ longest → rehearsal_of line ≡ Ok tt
  unfolding rehearsal_of
  line_written_lem h =
      rw (le-ltb longest (length line) h, same_fields, line_count shown ordinal counter latency gap readings statuses totals, fields_written)

  -- a field that shows a number of 32 bits, or is empty, and one that isn't there
  says : (k : ℕ) (t : Bool) (z : ℤ) → get_or fields k [] ≡ shown_if t (decimal z) → pos_part z ≤ 2147483647 → neg_part z ≤ 2147483648
      → value_at line k ≡ cond t z (pos 0)
  unfolding value_at
  says k t z e p n =
      ap (λ (fs : List (List ℕ)). nearest (number_value (get_or fs k []))) same_fields
      ∙ ap (λ (f : List ℕ). nearest (number_value f)) e
      ∙ shown_value t z p n

  absent : (k : ℕ) → get_or fields k [] ≡ [] → value_at line k ≡ pos 0
  unfolding decimal
  absent k e = says k false (pos 0) e (omega arith) (omega arith)

  module _ (P : Printable ordinal counter latency gap readings statuses totals) where
    short : length line ≤ longest
    unfolding shown_text
    short =
        let i = inside ordinal readings totals P.inside in
        omega (
          arith,
          length-append line (0x0A ∷ []),
          shown_longest shown ordinal counter latency gap readings statuses totals P.ordinal_fits P.counter_fits P.latency_fits
              (missed_fits gap P.missed_fits) P.statuses_fit i.0 i.1,
        )

    reading_says : (k g a : ℕ) → g < 3 → a < 3 → get_or fields k [] ≡ shown_if (get_or shown.carried g false) (decimal (get_or (get_or readings g []) a (pos 0)))
        → value_at line k ≡ if_shown shown g (get_or (get_or readings g []) a (pos 0))
    reading_says k g a h l e =
        let z = get_or (get_or readings g []) a (pos 0) in
        let r = in_reading_true z ((inside_passes ordinal readings totals P.inside).fit g a h l) in
        says k (get_or shown.carried g false) z e (omega arith) (omega arith)

    status_says : (k g : ℕ) → get_or fields k [] ≡ shown_if (get_or shown.carried g false) (digits (get_or statuses g 0))
        → value_at line k ≡ if_shown shown g (pos (get_or statuses g 0))
    unfolding decimal
    status_says k g e = says k (get_or shown.carried g false) (pos (get_or statuses g 0)) e (omega (arith, P.statuses_fit g)) (omega arith)

    pub sent_again : SentAgain shown ordinal counter latency gap readings statuses totals
    unfolding shown_fields groups_fields group_fields readings_in values_in decimal
    sent_again =
        record {
          written = line_written_lem short;
          same_counter = says 1 true (pos counter) refl (omega (arith, P.counter_fits)) (omega arith);
          same_latency = says 2 true (pos latency) refl (omega (arith, P.latency_fits)) (omega arith);
          same_reading =
              λ g a h l.
              each
              (λ (g : ℕ).
              (a : ℕ) → a < 3
              → get_or (get_or (readings_in line) g []) a (pos 0)
              ≡ if_shown shown g (get_or (get_or readings g []) a (pos 0)))
              (each _ (reading_says 4 0 0 (omega arith) (omega arith) refl) (reading_says 5 0 1 (omega arith) (omega arith) refl) (reading_says 6 0 2 (omega arith) (omega arith) refl))
              (each _ (reading_says 11 1 0 (omega arith) (omega arith) refl) (reading_says 12 1 1 (omega arith) (omega arith) refl) (reading_says 13 1 2 (omega arith) (omega arith) refl))
              (each _ (reading_says 18 2 0 (omega arith) (omega arith) refl) (reading_says 19 2 1 (omega arith) (omega arith) refl) (reading_says 20 2 2 (omega arith) (omega arith) refl))
              g h a l;
          same_status = each _ (status_says 7 0 refl) (status_says 14 1 refl) (status_says 21 2 refl);
          no_temperature =
              λ g a h l.
              each (λ (g : ℕ). (a : ℕ) → a < 3 → get_or (temperatures_of (values_in line) g) a (pos 0) ≡ pos 0)
              (each _ (absent 25 refl) (absent 26 refl) (absent 27 refl)) (each _ (absent 29 refl) (absent 30 refl) (absent 31 refl))
              (each _ (absent 33 refl) (absent 34 refl) (absent 35 refl)) g h a l;
          no_temperature_status = each _ (absent 28 refl) (absent 32 refl) (absent 36 refl);
          no_aux = absent 37 refl;
          no_aux_status = absent 38 refl;
        }
