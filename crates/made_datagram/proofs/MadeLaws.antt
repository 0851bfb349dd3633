-- What 02, 2.1 says of the answer and of the lent buffer: the numbers that refuse a datagram, what a refusal and a written one leave, and how long a
-- buffer has to be.
use Prim.Native.Nat.{ℕ, ◌≤◌, ◌<◌}
use native.Mathlib.Omega.{arith}
use mathlib.Core.Bool.{true, false}
use mathlib.Core.List.{List, ◌++◌}
use mathlib.Core.Logic.{◌⊎◌, inl, inr, ⊎_elim}
use mathlib.Core.Option.{Option, none, some}
use mathlib.Core.Path.{◌≡◌, refl, sym, ap, ◌∙◌}
use lib.IntN.{ℤ}
use lib.ListN.{length, drop}
use borrow.Author.Tests.{lt-ltb, le-ltb, ltb-false}
use Rattle.setup.specs.Setup.{ruling_number, Rule, first_number, ruling_with, setup_rules, ruling_on, length_of}
use Rattle.setup.specs.declared.Setup.{Setup}
use Rattle.setup.proofs.Refusals.{judge_numbers}
use Rattle.setup.proofs.Refusals as refusals
use Rattle.setup.proofs.Rules.{first_number_lem, some_refused, buffer_refused, buffer_accepted, none_applies, first_within, first_accepted, first_refused, refused_split, accepted_split}
use Rattle.made_datagram.specs.Making.{made_datagram, outside, own_rules, making_rules, made_number, made_bytes, making_ruling, made_answer, made_buffer}
use Rattle.made_datagram.specs.declared.Values.{Values}
use Rattle.made_datagram.proofs.RoundTrips.{made_length}
use Rattle.std.specs.Prelude.{Result, Ok, Err}
use Rattle.refusals.specs.Refusals.{number_of, Ruling, unless_refused}
use Rattle.refusals.specs.declared.Refusal.{Refusal}
use Rattle.refusals.specs.declared.Refusal.TheVariants.{DatagramOutside, DatagramRoom}

-- ---- from an answer to the ruling

told : (j : Ruling) (l : ℕ) → made_number (unless_refused j l) ≡ ruling_number j
told (Ok tt) l = refl
told (Err e) l = refl

refused_by : (j : Ruling) (l : ℕ) {n : ℕ} → made_number (unless_refused j l) ≡ some n → (e : Refusal) × (j ≡ Err e) × (number_of e ≡ n)
refused_by j l q = some_refused j (sym (told j l) ∙ q)

written_by : (j : Ruling) (l : ℕ) → made_number (unless_refused j l) ≡ none → (j ≡ Ok tt) × (made_bytes (unless_refused j l) ≡ l)
written_by (Ok tt) l q = (refl, refl)
written_by (Err e) l q = let z : ◌≡◌ {A = ℕ} 0 1 = cc in absurd (omega arith)

-- ---- a datagram

module _ (b : List ℕ) (u : Setup) (readings : List (List ℤ)) (v : Values) where
  abbrev answer : Result ℕ Refusal
  answer = made_answer b u readings v

  abbrev datagram : List ℕ
  datagram = made_datagram u readings v

  abbrev own : List Rule
  own = own_rules u readings v (length b)

  -- the number is that of the first rule that applies
  pub made_number_lem : made_number answer ≡ first_number (making_rules u readings v (length b))
  unfolding made_answer making_ruling
  made_number_lem = told (making_ruling b u readings v) _ ∙ first_number_lem (making_rules u readings v (length b))

  -- 4 to 9, 15 and 16 only
  pub made_numbers : {n : ℕ} → made_number answer ≡ some n → ((4 ≤ n) × (n ≤ 9)) ⊎ ((15 ≤ n) × (n ≤ 16))
  unfolding made_answer making_ruling making_rules own_rules ruling_on
  made_numbers {n} q =
      let by = refused_by (making_ruling b u readings v) _ q in
      rw (← by.2)
      (⊎_elim (λ s. inl (judge_numbers u s)) (λ l. inr (first_within 15 16 own (omega arith, omega arith, (omega arith, omega arith, tt)) l))
      (refused_split (setup_rules u) own by.1))

  -- a refusal writes nothing
  pub refused_keeps : {n : ℕ} → made_number answer ≡ some n → made_buffer b u readings v ≡ b
  unfolding made_answer made_buffer
  refused_keeps e = buffer_refused (making_ruling b u readings v) datagram b (refused_by (making_ruling b u readings v) _ e).1

  -- what is written has been accepted, and has room
  made_fits : made_number answer ≡ none → (ruling_on u ≡ Ok tt) × (outside u readings v ≡ false) × (length_of u ≤ length b)
  unfolding made_answer making_ruling making_rules own_rules ruling_on
  made_fits e =
      let a = accepted_split (setup_rules u) own (written_by (making_ruling b u readings v) _ e).0 in
      let l = none_applies own a.1 in
      (a.0, l.0, ltb-false (length b) (length_of u) l.1.0)

  made_long : made_number answer ≡ none → length datagram ≡ length_of u
  made_long e = let k = refusals.accepted u (made_fits e).0 in made_length u k.row k.listed k.termination readings v

  made_front : made_number answer ≡ none → made_buffer b u readings v ≡ datagram ++ drop (length datagram) b
  unfolding made_answer made_buffer
  made_front e = buffer_accepted (making_ruling b u readings v) datagram b (written_by (making_ruling b u readings v) _ e).0

  -- it stands there whole, every later byte is as it was, and its length comes back
  pub made_whole :
      made_number answer ≡ none
      → (length datagram ≤ length b) × (made_bytes answer ≡ length datagram) × (made_buffer b u readings v ≡ datagram ++ drop (length datagram) b)
  unfolding made_answer
  made_whole e =
      let l = made_long e in
      (omega (arith, (made_fits e).2), (written_by (making_ruling b u readings v) _ e).1 ∙ sym l, made_front e)

  -- 4 to 9 come first
  pub setup_first : {e : Refusal} → ruling_on u ≡ Err e → answer ≡ Err e
  unfolding made_answer making_ruling making_rules ruling_on
  setup_first e = rw (first_refused (setup_rules u) own e)

  -- of an accepted setup: 15 for a value that it refuses, whatever the buffer; then 16 exactly for a buffer shorter than L
  module _ (ok : ruling_on u ≡ Ok tt) where
    pub made_outside : outside u readings v ≡ true → answer ≡ Err DatagramOutside
    unfolding made_answer making_ruling making_rules own_rules ruling_on
    made_outside h = rw (first_accepted (setup_rules u) own ok, h)

    pub made_short : outside u readings v ≡ false → length b < length_of u → answer ≡ Err DatagramRoom
    unfolding made_answer making_ruling making_rules own_rules ruling_on
    made_short h l = rw (first_accepted (setup_rules u) own ok, h, lt-ltb (length b) (length_of u) l)

    pub made_enough : outside u readings v ≡ false → length_of u ≤ length b → answer ≡ Ok (length_of u)
    unfolding made_answer making_ruling making_rules own_rules ruling_on
    made_enough h l = rw (first_accepted (setup_rules u) own ok, h, le-ltb (length b) (length_of u) l)
