-- The answer and the buffer of a line, case by case in checking order.
use mathlib.Core.Path.{◌≡◌, refl, ap, ◌∙◌}
use mathlib.Core.Bool.{true, false, not, ◌||◌}
use mathlib.Core.List.{List, ◌++◌}
use Prim.Native.Nat.{ℕ, ◌≤◌, ◌<◌}
use native.Mathlib.Nat.{zero-add}
use borrow.Author.Tests.{not-false, lt-ltb, le-ltb}
use lib.Dec.{eqb}
use lib.IntN.{ℤ}
use lib.ListN.{length, drop}
use Rattle.integers.proofs.Booleans.{or_split}
use Rattle.integers.proofs.Buffers.{put_front}
use Rattle.gaps.specs.declared.Gap.{Gap}
use Rattle.motion.specs.Totals.{Totals}
use Rattle.integers.specs.Buffers.{Put}
use Rattle.shown_line.specs.Putting.{room_answer, room_buffer}
use Rattle.shown_line.specs.ShownLine.{shown_text, readings_fit, totals_within, outside}
use Rattle.shown_line.specs.ShownLine.{shown_rules, shown_ruling, shown_answer, shown_buffer}
use Rattle.shown_line.specs.declared.Shown.{Shown}
use Rattle.std.specs.Prelude.{Result, Ok, Err}
use Rattle.refusals.specs.declared.Refusal.{Refusal}
use Rattle.refusals.specs.declared.Refusal.TheVariants.{LineOutside, LineRoom}

-- ---- a text and a buffer

module _ (b text : List ℕ) where
  pub room_short : length b < length text → (Err LineRoom ≡ room_answer b text) × (b ≡ room_buffer b text)
  unfolding room_answer room_buffer
  room_short h = rw (lt-ltb (length b) (length text) h) (refl, refl)

  pub room_enough : length text ≤ length b → (Ok (length text) ≡ room_answer b text) × (text ++ drop (length text) b ≡ room_buffer b text)
  unfolding room_answer room_buffer
  room_enough h = rw (le-ltb (length b) (length text) h) (refl, refl)

-- ---- the line

-- what 13 doesn't refuse
pub inside : (ordinal : ℕ) (readings : List (List ℤ)) (totals : Totals) → outside ordinal readings totals ≡ false
    → (readings_fit readings ≡ true) × (totals_within totals ≡ true) × (eqb ordinal 0 ≡ false)
unfolding outside
inside ordinal readings totals e =
    let r = readings_fit readings in
    let t = totals_within totals in
    let z = or_split (not r || not t) (eqb ordinal 0) e in
    let p = or_split (not r) (not t) z.0 in
    (not-false r p.0, not-false t p.1, z.1)

module _ (b : List ℕ) (shown : Shown) (ordinal counter latency : ℕ) (gap : Gap) (readings : List (List ℤ)) (statuses : List ℕ) (totals : Totals) where
  abbrev text : List ℕ
  text = shown_text shown ordinal counter latency gap readings statuses totals

  abbrev answer : Result ℕ Refusal
  answer = shown_answer b shown ordinal counter latency gap readings statuses totals

  abbrev buffer : List ℕ
  buffer = shown_buffer b shown ordinal counter latency gap readings statuses totals

  pub values_refused : outside ordinal readings totals ≡ true → (Err LineOutside ≡ answer) × (b ≡ buffer)
  unfolding shown_answer shown_buffer shown_ruling shown_rules
  values_refused h = rw h (refl, refl)

  module _ (h : outside ordinal readings totals ≡ false) where
    -- only 14 is left to refuse it
    pub room_left : (room_answer b text ≡ answer) × (room_buffer b text ≡ buffer)
    unfolding shown_answer shown_buffer shown_ruling shown_rules room_answer room_buffer
    room_left = rw h (refl, refl)

    -- what is copied there, and what is put there
    pub apart_written : {r : (Result ℕ Refusal)} {b1 : List ℕ} → (r ≡ room_answer b text) × (b1 ≡ room_buffer b text) → (r ≡ answer) × (b1 ≡ buffer)
    apart_written p = (p.0 ∙ room_left.0, p.1 ∙ room_left.1)

    pub put_written : {b1 : List ℕ} {n : ℕ} → length text ≤ length b → Put b 0 text b1 n → (Ok n ≡ answer) × (b1 ≡ buffer)
    put_written l p =
        let q = room_enough b text l in
        (ap Ok (p.place ∙ zero-add (length text)) ∙ q.0 ∙ room_left.0, p.bytes ∙ put_front b text l ∙ q.1 ∙ room_left.1)
