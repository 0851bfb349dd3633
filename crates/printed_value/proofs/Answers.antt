-- What 02, 2.6 says of the answer and of the lent buffer: what a refusal and a printed text leave, and which number refuses, in checking order.
use Prim.Native.Nat.{ℕ, ◌^◌, ◌≤◌, ◌<◌}
use native.Mathlib.Omega.{arith}
use mathlib.Core.Bool.{Bool, true, false, not, ◌||◌}
use mathlib.Core.List.{List, ◌++◌}
use mathlib.Core.Logic.{◌⊎◌, inl, inr}
use mathlib.Core.Option.{none, some}
use mathlib.Core.Path.{◌≡◌, refl, sym, ap, ◌∙◌}
use borrow.Author.Tests.{not-false, lt-ltb, le-ltb, lt-leb, le-leb, ltb-false, leb-true}
use lib.Dec.{ltb, leb}
use lib.IntN.{ℤ, nat_abs}
use lib.ListN.{length, drop}
use Rattle.integers.proofs.Booleans.{or_true, or_split}
use Rattle.setup.specs.Setup.{first_number, ruling_number}
use Rattle.setup.proofs.Rules.{first_number_lem, none_accepted, some_refused, buffer_refused, number_within, none_applies}
use Rattle.printed_value.specs.PrintedValue.{value_text, out_of_range, beyond, shorter, value_rules, printed_by, printed_refusal, printed_bytes, value_ruling, printed_answer, printed_buffer}
use Rattle.std.specs.Prelude.{Result, Ok, Err}
use Rattle.refusals.specs.Refusals.{Ruling}
use Rattle.refusals.specs.declared.Refusal.{Refusal}
use Rattle.refusals.specs.declared.Refusal.TheVariants.{PlacesOrShift, NumberTooGreat}

-- the answer's number is the ruling's
number_by : (j : Ruling) (text : List ℕ) → printed_refusal (printed_by j text) ≡ ruling_number j
number_by (Ok tt) text = refl
number_by (Err e) text = refl

-- ---- the tests, by numbers

pub out_of_range_lem : (shift places : ℕ) → (9 < places) ⊎ (31 < shift) → out_of_range shift places ≡ true
out_of_range_lem shift places (inl h) = ap (λ (t : Bool). t || ltb 31 shift) (lt-ltb 9 places h)
out_of_range_lem shift places (inr h) = or_true (ltb 9 places) (lt-ltb 31 shift h)

pub in_range : (shift places : ℕ) → places ≤ 9 → shift ≤ 31 → out_of_range shift places ≡ false
in_range shift places p s = rw (le-ltb 9 places p, le-ltb 31 shift s)

pub in_range_back : (shift places : ℕ) → out_of_range shift places ≡ false → (places ≤ 9) × (shift ≤ 31)
in_range_back shift places e =
    let t = or_split (ltb 9 places) (ltb 31 shift) e in
    (ltb-false 9 places t.0, ltb-false 31 shift t.1)

pub within_limit : (n : ℤ) → nat_abs n ≤ 2 ^ 53 → beyond n ≡ false
within_limit n h = ap not (le-leb (nat_abs n) (2 ^ 53) h)

pub beyond_limit : (n : ℤ) → 2 ^ 53 < nat_abs n → beyond n ≡ true
beyond_limit n h = ap not (lt-leb (nat_abs n) (2 ^ 53) h)

pub within_limit_back : (n : ℤ) → beyond n ≡ false → nat_abs n ≤ 2 ^ 53
within_limit_back n e = leb-true (nat_abs n) (2 ^ 53) (not-false (leb (nat_abs n) (2 ^ 53)) e)

pub room_there : (room : ℕ) (text : List ℕ) → length text ≤ room → shorter room text ≡ false
room_there room text h = le-ltb room (length text) h

pub room_missing : (room : ℕ) (text : List ℕ) → room < length text → shorter room text ≡ true
room_missing room text h = lt-ltb room (length text) h

-- ---- the answer and the buffer

module _ (b : List ℕ) (n : ℤ) (shift places : ℕ) where
  abbrev text : List ℕ
  text = value_text n shift places

  abbrev answer : Result ℕ Refusal
  answer = printed_answer b n shift places

  abbrev buffer : List ℕ
  buffer = printed_buffer b n shift places

  -- in checking order: 17
  pub places_refused : out_of_range shift places ≡ true → (Err PlacesOrShift ≡ answer) × (b ≡ buffer)
  unfolding printed_answer printed_buffer value_ruling value_rules
  places_refused h = rw h (refl, refl)

  -- 18
  pub number_refused : out_of_range shift places ≡ false → beyond n ≡ true → (Err NumberTooGreat ≡ answer) × (b ≡ buffer)
  unfolding printed_answer printed_buffer value_ruling value_rules
  number_refused r h = rw (r, h) (refl, refl)

  -- the same by numbers
  pub seventeen : (9 < places) ⊎ (31 < shift) → printed_refusal answer ≡ some 17
  seventeen h = sym (ap printed_refusal (places_refused (out_of_range_lem shift places h)).0)

  module _ (p : places ≤ 9) (s : shift ≤ 31) where
    pub eighteen : 2 ^ 53 < nat_abs n → printed_refusal answer ≡ some 18
    eighteen h = sym (ap printed_refusal (number_refused (in_range shift places p s) (beyond_limit n h)).0)

    -- 19 exactly for a buffer shorter than the text
    module _ (w : nat_abs n ≤ 2 ^ 53) where
      pub nineteen : length b < length text → printed_refusal answer ≡ some 19
      unfolding printed_answer value_ruling value_rules
      nineteen h = rw (in_range shift places p s, within_limit n w, room_missing (length b) text h)

      pub enough : length text ≤ length b → printed_refusal answer ≡ none
      unfolding printed_answer value_ruling value_rules
      enough h = rw (in_range shift places p s, within_limit n w, room_there (length b) text h)

  -- the number is that of the first rule that applies
  pub printed_number : printed_refusal answer ≡ first_number (value_rules n shift places (length b))
  unfolding printed_answer value_ruling
  printed_number = number_by (value_ruling b n shift places) text ∙ first_number_lem (value_rules n shift places (length b))

  -- 17 to 19 only
  pub printed_numbers : {k : ℕ} → printed_refusal answer ≡ some k → (17 ≤ k) × (k ≤ 19)
  unfolding value_rules
  printed_numbers e =
      number_within 17 19 (value_rules n shift places (length b)) (omega arith, omega arith, (omega arith, omega arith, (omega arith, omega arith, tt)))
      (sym printed_number ∙ e)

  -- a refusal writes nothing
  pub refused_keeps : {k : ℕ} → printed_refusal answer ≡ some k → buffer ≡ b
  unfolding printed_answer printed_buffer
  refused_keeps e =
      let j = value_ruling b n shift places in
      buffer_refused j text b (some_refused j (sym (number_by j text) ∙ e)).1

  -- a text that is printed stands there whole, every later byte is as it was, and its length comes back
  pub printed_whole : printed_refusal answer ≡ none → (length text ≤ length b) × (printed_bytes answer ≡ length text) × (buffer ≡ text ++ drop (length text) b)
  unfolding printed_answer printed_buffer value_ruling value_rules
  printed_whole e =
      let j = value_ruling b n shift places in
      let a = none_accepted j (sym (number_by j text) ∙ e) in
      let l = none_applies (value_rules n shift places (length b)) a in
      (ltb-false (length b) (length text) l.1.1.0, rw a, rw a)
