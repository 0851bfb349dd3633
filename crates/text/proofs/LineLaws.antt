-- What 01 says of the answer and of the lent buffer, of every line: the numbers that refuse it, what a refusal and a written line leave, and
-- how long a buffer has to be.
use mathlib.Core.Path.{◌≡◌, sym, ap, ◌∙◌}
use mathlib.Core.Bool.{true, false}
use mathlib.Core.List.{List, ◌∷◌, ◌++◌}
use mathlib.Core.Option.{none, some}
use mathlib.Core.Logic.{◌⊎◌, inl, inr, ⊎_elim}
use Prim.Native.Nat.{ℕ, ◌^◌, ◌≤◌, ◌<◌}
use native.Mathlib.Omega.{arith}
use borrow.Author.Tests.{ltb-true, ltb-false}
use lib.Dec.{ltb}
use lib.IntN.{ℤ}
use lib.ListN.{length, drop, get_or}
use Rattle.setup.specs.Setup.{Rule, rule, first_number, first_of, setup_rules, ruling_on}
use Rattle.setup.specs.declared.Setup.{Setup}
use Rattle.setup.proofs.Refusals.{judge_numbers}
use Rattle.setup.proofs.Rules.{buffer_refused, none_applies, refused_split, accepted_split}
use Rattle.gaps.specs.declared.Gap.{Gap}
use Rattle.motion.specs.Totals.{Totals}
use Rattle.shown_line.specs.ShownLine.{readings_fit, totals_within, outside, room_rules, shown_rules, written_number, written_bytes, longest_line}
use Rattle.shown_line.proofs.Answers.{inside}
use Rattle.shown_line.proofs.Longest.{MissedFits, shown_longest}
use Rattle.shown_line.proofs.ShownLaws.{refused_by, written_by_lem, number_by, last_fourteen, last_numbers, shown_enough, shown_short}
use Rattle.text.specs.TextLine.{shown_by, line_text, line_rules, line_ruling, line_answer, line_buffer}
use Rattle.text.proofs.Answers.{accepted_answer}
use Rattle.std.specs.Prelude.{Result, Ok, Err}
use Rattle.refusals.specs.Refusals.{Ruling}
use Rattle.refusals.specs.declared.Refusal.{Refusal}
use Rattle.refusals.specs.declared.Refusal.TheVariants.{LineOutside}

-- ---- a line under a setup

abbrev pub LineNumber : ℕ → Type 0
LineNumber n = ((4 ≤ n) × (n ≤ 9)) ⊎ ((13 ≤ n) × (n ≤ 14))

module _ (b : List ℕ) (setup : Setup) (ordinal counter latency : ℕ) (gap : Gap) (readings : List (List ℤ)) (statuses : List ℕ) (totals : Totals) where
  abbrev text : List ℕ
  text = line_text setup ordinal counter latency gap readings statuses totals

  abbrev ruling_line : Ruling
  ruling_line = line_ruling b setup ordinal counter latency gap readings statuses totals

  abbrev answer : Result ℕ Refusal
  answer = line_answer b setup ordinal counter latency gap readings statuses totals

  abbrev buffer : List ℕ
  buffer = line_buffer b setup ordinal counter latency gap readings statuses totals

  abbrev rules : List Rule
  rules = rule LineOutside (outside ordinal readings totals) ∷ room_rules text (length b)

  -- which list of rules refuses it, where one does
  refused_of : {e : Refusal} → ruling_line ≡ Err e → (ruling_on setup ≡ Err e) ⊎ (first_of rules ≡ Err e)
  unfolding line_answer line_ruling line_rules shown_rules ruling_on
  refused_of q = refused_split (setup_rules setup) rules q

  written_of : written_number answer ≡ none → (first_of (setup_rules setup ++ rules) ≡ Ok tt) × (written_bytes answer ≡ length text)
  unfolding line_answer line_ruling line_rules shown_rules
  written_of e = written_by_lem ruling_line text e

  -- the number is that of the first rule that applies
  pub answer_number_lem : written_number answer ≡ first_number (line_rules setup ordinal readings totals text (length b))
  unfolding line_answer line_ruling
  answer_number_lem = number_by (line_rules setup ordinal readings totals text (length b)) text

  -- a line is refused by 4 to 9, 13 and 14 only
  pub answer_numbers : {n : ℕ} → written_number answer ≡ some n → LineNumber n
  unfolding line_answer
  answer_numbers q =
      let by = refused_by ruling_line text q in
      rw (← by.2)
      (⊎_elim (λ s. inl (judge_numbers setup s)) (λ l. inr (last_numbers (outside ordinal readings totals) (ltb (length b) (length text)) l)) (refused_of by.1))

  -- a refusal writes nothing
  pub refused_keeps : {n : ℕ} → written_number answer ≡ some n → buffer ≡ b
  unfolding line_answer line_buffer
  refused_keeps e = buffer_refused ruling_line text b (refused_by ruling_line text e).1

  -- what is written has been accepted, and has room
  pub written_fits : written_number answer ≡ none → (ruling_on setup ≡ Ok tt) × (outside ordinal readings totals ≡ false) × (length text ≤ length b)
  unfolding ruling_on
  written_fits e =
      let a = accepted_split (setup_rules setup) rules (written_of e).0 in
      let l = none_applies rules a.1 in
      (a.0, l.0, ltb-false (length b) (length text) l.1.0)

  -- a written line alters only its own bytes, from the front
  written_front : written_number answer ≡ none → buffer ≡ text ++ drop (written_bytes answer) b
  unfolding line_answer line_buffer
  written_front e = rw (written_by_lem ruling_line text e).0

  -- it stands there whole, and its length comes back
  pub written_whole :
      written_number answer ≡ none → (length text ≤ length b) × (written_bytes answer ≡ length text) × (buffer ≡ text ++ drop (length text) b)
  written_whole e = ((written_fits e).2, (written_of e).1, written_front e ∙ ap (λ (n : ℕ). text ++ drop n b) (written_of e).1)

  -- a buffer as long as the line is enough, and one that is shorter isn't
  module _ (a : ruling_on setup ≡ Ok tt) (h : outside ordinal readings totals ≡ false) where
    pub enough_room : length text ≤ length b → written_number answer ≡ none
    unfolding line_text
    enough_room l =
        ap written_number
        (sym (accepted_answer b setup ordinal counter latency gap readings statuses totals a)
        ∙ shown_enough b (shown_by setup) ordinal counter latency gap readings statuses totals h l)

    pub too_short : length b < length text → written_number answer ≡ some 14
    unfolding line_text
    too_short l =
        ap written_number
        (sym (accepted_answer b setup ordinal counter latency gap readings statuses totals a)
        ∙ shown_short b (shown_by setup) ordinal counter latency gap readings statuses totals h l)

  -- no line is longer than `longest_line`
  pub longest :
      ordinal < 2 ^ 64 → counter < 256 → latency < 65536 → MissedFits gap → ((i : ℕ) → get_or statuses i 0 < 256)
      → readings_fit readings ≡ true → totals_within totals ≡ true → length text ≤ longest_line
  unfolding line_text
  longest = shown_longest (shown_by setup) ordinal counter latency gap readings statuses totals

  -- so a buffer of that many bytes is never too short
  pub never_short : ordinal < 2 ^ 64 → counter < 256 → latency < 65536 → MissedFits gap → ((i : ℕ) → get_or statuses i 0 < 256) → longest_line ≤ length b → written_number answer ≡ some 14 → ⊥
  unfolding line_answer
  never_short o c l g s room q =
      let by = refused_by ruling_line text q in
      ⊎_elim (λ f. let n = judge_numbers setup f in omega (arith, by.2))
      (λ f.
      let t = last_fourteen (outside ordinal readings totals) (ltb (length b) (length text)) f by.2 in
      let i = inside ordinal readings totals t.0 in
      omega (arith, ltb-true (length b) (length text) t.1, longest o c l g s i.0 i.1))
      (refused_of by.1)
