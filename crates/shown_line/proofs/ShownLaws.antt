-- What 01 says of the answer and of the lent buffer, of every line that is shown: the numbers that refuse it, what a refusal and a
-- written line leave, and how long a buffer has to be.
use mathlib.Core.Path.{◌≡◌, refl, sym, ap, ◌∙◌}
use mathlib.Core.Bool.{Bool, true, false}
use mathlib.Core.List.{List, [], ◌∷◌, ◌++◌}
use mathlib.Core.Option.{none, some}
use Prim.Native.Nat.{ℕ, ◌≤◌, ◌<◌}
use native.Mathlib.Omega.{arith}
use borrow.Author.Tests.{ltb-false}
use lib.Dec.{ltb}
use lib.IntN.{ℤ}
use lib.ListN.{length, drop}
use Rattle.setup.specs.Setup.{Rule, rule, first_of, first_number, ruling_number}
use Rattle.setup.proofs.Rules.{first_number_lem, some_refused, buffer_refused, none_applies, first_within}
use Rattle.gaps.specs.declared.Gap.{Gap}
use Rattle.motion.specs.Totals.{Totals}
use Rattle.shown_line.specs.ShownLine.{shown_text, outside, room_rules, shown_rules, written_by, written_number, written_bytes, shown_ruling, shown_answer, shown_buffer}
use Rattle.shown_line.specs.declared.Shown.{Shown}
use Rattle.shown_line.proofs.Answers.{room_short, room_enough, room_left}
use Rattle.std.specs.Prelude.{Result, Ok, Err}
use Rattle.refusals.specs.Refusals.{number_of, Ruling}
use Rattle.refusals.specs.declared.Refusal.{Refusal}
use Rattle.refusals.specs.declared.Refusal.TheVariants.{LineOutside, LineRoom}

-- ---- from an answer to the ruling

told : (j : Ruling) (t : List ℕ) → written_number (written_by j t) ≡ ruling_number j
told (Ok tt) t = refl
told (Err e) t = refl

pub refused_by : (j : Ruling) (t : List ℕ) {n : ℕ} → written_number (written_by j t) ≡ some n → (e : Refusal) × (j ≡ Err e) × (number_of e ≡ n)
refused_by j t q = some_refused j (sym (told j t) ∙ q)

pub written_by_lem : (j : Ruling) (t : List ℕ) → written_number (written_by j t) ≡ none → (j ≡ Ok tt) × (written_bytes (written_by j t) ≡ length t)
written_by_lem (Ok tt) t e = (refl, refl)
written_by_lem (Err f) t e = let z : ◌≡◌ {A = ℕ} 0 1 = cc in absurd (omega arith)

-- the number is that of the first rule that applies
pub number_by : (rs : List Rule) (t : List ℕ) → written_number (written_by (first_of rs) t) ≡ first_number rs
number_by rs t = told (first_of rs) t ∙ first_number_lem rs

-- ---- the rules of a line

-- 14 alone refuses: 13 doesn't
pub last_fourteen : (o t : Bool) {e : Refusal} → first_of (rule LineOutside o ∷ rule LineRoom t ∷ []) ≡ Err e → number_of e ≡ 14 → (o ≡ false) × (t ≡ true)
last_fourteen true t {e} q n = let s : number_of LineOutside ≡ number_of e = cc in absurd (omega arith)
last_fourteen false true q n = (refl, refl)
last_fourteen false false q n = let z : ◌≡◌ {A = ℕ} 0 1 = cc in absurd (omega arith)

pub last_numbers : (o t : Bool) {e : Refusal} → first_of (rule LineOutside o ∷ rule LineRoom t ∷ []) ≡ Err e → (13 ≤ number_of e) × (number_of e ≤ 14)
last_numbers o t e = first_within 13 14 (rule LineOutside o ∷ rule LineRoom t ∷ []) (omega arith, omega arith, (omega arith, omega arith, tt)) e

-- ---- a line by what is shown

module _ (b : List ℕ) (shown : Shown) (ordinal counter latency : ℕ) (gap : Gap) (readings : List (List ℤ)) (statuses : List ℕ) (totals : Totals) where
  abbrev shown_text_lem : List ℕ
  shown_text_lem = shown_text shown ordinal counter latency gap readings statuses totals

  abbrev shown_ruling_lem : Ruling
  shown_ruling_lem = shown_ruling b shown ordinal counter latency gap readings statuses totals

  abbrev shown_answer_lem : Result ℕ Refusal
  shown_answer_lem = shown_answer b shown ordinal counter latency gap readings statuses totals

  abbrev shown_buffer_lem : List ℕ
  shown_buffer_lem = shown_buffer b shown ordinal counter latency gap readings statuses totals

  -- the number is that of the first rule that applies
  pub shown_number : written_number shown_answer_lem ≡ first_number (shown_rules ordinal readings totals shown_text_lem (length b))
  unfolding shown_answer shown_ruling
  shown_number = number_by (shown_rules ordinal readings totals shown_text_lem (length b)) shown_text_lem

  -- it is refused by 13 and 14 only, and a refusal writes nothing
  pub shown_numbers : {n : ℕ} → written_number shown_answer_lem ≡ some n → (13 ≤ n) × (n ≤ 14)
  unfolding shown_answer shown_ruling shown_rules
  shown_numbers e =
      let by = refused_by shown_ruling_lem shown_text_lem e in
      rw (← by.2) (last_numbers (outside ordinal readings totals) (ltb (length b) (length shown_text_lem)) by.1)

  pub shown_keeps : {n : ℕ} → written_number shown_answer_lem ≡ some n → shown_buffer_lem ≡ b
  unfolding shown_answer shown_buffer
  shown_keeps e = buffer_refused shown_ruling_lem shown_text_lem b (refused_by shown_ruling_lem shown_text_lem e).1

  -- a written line alters only its own bytes, from the front
  shown_front : written_number shown_answer_lem ≡ none → shown_buffer_lem ≡ shown_text_lem ++ drop (written_bytes shown_answer_lem) b
  unfolding shown_answer shown_buffer
  shown_front e = rw (written_by_lem shown_ruling_lem shown_text_lem e).0

  -- it stands there whole, and its length comes back
  pub shown_whole :
      written_number shown_answer_lem ≡ none
      → (length shown_text_lem ≤ length b) × (written_bytes shown_answer_lem ≡ length shown_text_lem) × (shown_buffer_lem ≡ shown_text_lem ++ drop (length shown_text_lem) b)
  unfolding shown_answer shown_ruling shown_rules
  shown_whole e =
      let w = written_by_lem shown_ruling_lem shown_text_lem e in
      let l = none_applies (rule LineOutside (outside ordinal readings totals) ∷ room_rules shown_text_lem (length b)) w.0 in
      (ltb-false (length b) (length shown_text_lem) l.1.0, w.1, shown_front e ∙ ap (λ (n : ℕ). shown_text_lem ++ drop n b) w.1)

  -- a buffer as long as the line is enough, and one that is shorter isn't
  module _ (h : outside ordinal readings totals ≡ false) where
    pub shown_enough : length shown_text_lem ≤ length b → shown_answer_lem ≡ Ok (length shown_text_lem)
    shown_enough l = sym ((room_enough b shown_text_lem l).0 ∙ (room_left b shown ordinal counter latency gap readings statuses totals h).0)

    pub shown_short : length b < length shown_text_lem → shown_answer_lem ≡ Err LineRoom
    shown_short l = sym ((room_short b shown_text_lem l).0 ∙ (room_left b shown ordinal counter latency gap readings statuses totals h).0)

    -- what a call with so much room gives back: the line's length, and the line at the front of the buffer
    pub shown_written :
        {r : Result ℕ Refusal} {b1 : List ℕ} → (r ≡ shown_answer_lem) × (b1 ≡ shown_buffer_lem) → length shown_text_lem ≤ length b
        → (r ≡ Ok (length shown_text_lem)) × (b1 ≡ shown_text_lem ++ drop (length shown_text_lem) b)
    shown_written w l =
        let e = shown_enough l in
        (w.0 ∙ e, w.1 ∙ shown_front (ap written_number e) ∙ ap (λ (a : Result ℕ Refusal). shown_text_lem ++ drop (written_bytes a) b) e)
