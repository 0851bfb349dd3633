-- The text of a value by its sign, whole part and fraction: how long it is, that it is put into a buffer part by part, and that it is the text of the value.
use Prim.Native.Nat.{ℕ, zero, suc, ◌+◌, ◌*◌, ◌/◌, ◌%◌, ◌^◌, ◌≤◌, ◌<◌}
use mathlib.Core.Bool.{Bool, true, false, ◌&&◌, ◌||◌}
use mathlib.Core.List.{List, [], ◌∷◌, ◌++◌}
use mathlib.Core.Path.{◌≡◌, refl, sym, ap, ◌∙◌, subst}
use native.Mathlib.Decide.{dec_lt}
use native.Mathlib.Nat.{zero-add, zero-mul, zero-div, zero-mod, one-le-pow, div-add-mod'}
use native.Mathlib.Omega.{arith}
use borrow.Author.Tests.{eq-eqb, ne_eqb, lt-ltb}
use lib.Dec.{ltb}
use lib.IntN.{ℤ, pos}
use lib.ListN.{length, length-append}
use lib.Signed.{lt_z}
use Rattle.integers.specs.Buffers.{Put}
use Rattle.integers.proofs.Booleans.{or_true}
use Rattle.integers.proofs.Buffers.{put_front, put_length, then_put}
use Rattle.shown_line.specs.Decimal.{digits}
use Rattle.printed_value.specs.PrintedValue.{last_digits, behind_whole, placed_text, value_text, out_of_range, beyond, value_rules, value_ruling, printed_answer, printed_buffer}
use Rattle.printed_value.specs.Prints.{minus_text}
use Rattle.printed_value.proofs.Answers.{room_missing, room_there}
use Rattle.printed_value.proofs.LastDigits.{last_whole, last_behind}
use Rattle.printed_value.proofs.ValueLaws.{printed_size, behind_by_lem, behind_length, text_by_sign, sign_of}
use Rattle.printing.specs.Writing.{fraction_length, text_of, room_answer, room_buffer}
use Rattle.std.specs.Prelude.{Result, Ok, Err}
use Rattle.refusals.specs.declared.Refusal.{Refusal}
use Rattle.refusals.specs.declared.Refusal.TheVariants.{ValueRoom}

-- ---- what follows the whole part

pub behind_none : (places f : ℕ) → places ≡ 0 → behind_whole places f ≡ []
behind_none places f e = behind_by_lem places f ∙ rw (eq-eqb places 0 e)

pub behind_some : (places f : ℕ) → (places ≡ 0 → ⊥) → behind_whole places f ≡ 0x2E ∷ last_digits places f
behind_some places f h = behind_by_lem places f ∙ rw (ne_eqb places 0 h)

-- only the last `places` digits of a number stand behind the point
behind_left : (places m : ℕ) → behind_whole places m ≡ behind_whole places (m % 10 ^ places)
behind_left zero m = behind_none 0 m refl ∙ sym (behind_none 0 (m % 10 ^ 0) refl)
behind_left (suc k) m =
    let p = suc k in
    let some : p ≡ 0 → ⊥ = λ e. omega arith in
    behind_some p m some
    ∙ ap (λ (t : List ℕ). 0x2E ∷ t) (ap (last_digits p) (sym (div-add-mod' m (10 ^ p))) ∙ last_behind p (m / 10 ^ p) (m % 10 ^ p))
    ∙ sym (behind_some p (m % 10 ^ p) some)

-- ---- the text, part by part

pub text_length : (minus : Bool) (whole fraction places : ℕ)
    → length (text_of minus whole fraction places) ≡ length (minus_text minus) + length (digits whole) + fraction_length places
unfolding text_of
text_length minus whole fraction places =
    omega (
      arith,
      length-append (minus_text minus) (digits whole ++ behind_whole places fraction),
      length-append (digits whole) (behind_whole places fraction),
      behind_length places fraction,
    )

module _ (minus : Bool) (whole fraction places : ℕ) (b : List ℕ) (room : length (text_of minus whole fraction places) ≤ length b) where
  pub minus_room : length (minus_text minus) ≤ length b
  minus_room = omega (arith, text_length minus whole fraction places)

  module _ {count : ℕ} (c : count ≡ length (digits whole)) {b1 : List ℕ} {at : ℕ} (first : Put b 0 (minus_text minus) b1 at) where
    pub whole_room : at + count ≤ length b1
    whole_room = omega (arith, text_length minus whole fraction places, first.place, put_length first)

    module _ {b2 : List ℕ} {point : ℕ} (second : Put b1 at (last_digits count whole) b2 point) where
      whole_put : Put b1 at (digits whole) b2 point
      whole_put = subst (λ (t : List ℕ). Put b1 at t b2 point) (ap (λ (k : ℕ). last_digits k whole) c ∙ last_whole whole) second

      pub fraction_room : point + length (behind_whole places fraction) ≤ length b2
      fraction_room =
          omega (arith, text_length minus whole fraction places, behind_length places fraction, first.place, put_length first, whole_put.place, put_length whole_put)

      pub text_put : {b3 : List ℕ} {end : ℕ} → Put b2 point (behind_whole places fraction) b3 end → Put b 0 (text_of minus whole fraction places) b3 end
      unfolding text_of
      text_put third = then_put first (then_put whole_put third)

-- ---- where only 19 is left to refuse it

module _ (b text : List ℕ) where
  pub room_short : length b < length text → (Err ValueRoom ≡ room_answer b text) × (b ≡ room_buffer b text)
  unfolding room_answer room_buffer
  room_short h = rw (room_missing (length b) text h) (refl, refl)

  pub room_put : {b1 : List ℕ} {end : ℕ} → length text ≤ length b → Put b 0 text b1 end → (Ok end ≡ room_answer b text) × (b1 ≡ room_buffer b text)
  unfolding room_answer room_buffer
  room_put h p = rw (room_there (length b) text h) (ap Ok (p.place ∙ zero-add (length text)), p.bytes ∙ put_front b text h)

-- ---- the text of the value

-- one of the two parts isn't 0 exactly if the number isn't
nonzero_parts : (m d : ℕ) → 0 < d → (ltb 0 (m / d) || ltb 0 (m % d)) ≡ ltb 0 m
nonzero_parts m d h = by (dec_lt 0 m)
  where
    some : 0 < m → Dec (0 < m / d) → (ltb 0 (m / d) || ltb 0 (m % d)) ≡ true
    some l (yes k) = rw (lt-ltb 0 (m / d) k)
    some l (no k) =
        let e : m / d ≡ 0 = omega arith in
        let none : m / d * d ≡ 0 = ap (λ (q : ℕ). q * d) e ∙ zero-mul d in
        or_true (ltb 0 (m / d)) (lt-ltb 0 (m % d) (omega (arith, div-add-mod' m d)))

    by : Dec (0 < m) → (ltb 0 (m / d) || ltb 0 (m % d)) ≡ ltb 0 m
    by (yes l) = some l (dec_lt 0 (m / d)) ∙ sym (lt-ltb 0 m l)
    by (no l) = let e : m ≡ 0 = omega arith in rw (e, zero-div d, zero-mod d)

module _ (n : ℤ) (shift places : ℕ) where
  pub value_parts :
      {whole fraction : ℕ} → whole ≡ printed_size n shift places / 10 ^ places → fraction ≡ printed_size n shift places % 10 ^ places
      → text_of (lt_z n (pos 0) && (ltb 0 whole || ltb 0 fraction)) whole fraction places ≡ value_text n shift places
  unfolding text_of placed_text
  value_parts e f =
      let m = printed_size n shift places in
      let d = 10 ^ places in
      rw (e, f, nonzero_parts m d (one-le-pow places 10 (omega arith)), ← behind_left places m)
      (sym (text_by_sign shift places (sign_of n m) refl))

  -- what is left of the rules
  module _ (b : List ℕ) (r : out_of_range shift places ≡ false) (w : beyond n ≡ false) where
    room_left : (room_answer b (value_text n shift places) ≡ printed_answer b n shift places) × (room_buffer b (value_text n shift places) ≡ printed_buffer b n shift places)
    unfolding printed_answer printed_buffer value_ruling value_rules room_answer room_buffer
    room_left = rw (r, w) (refl, refl)

    pub value_written :
        {answer : (Result ℕ Refusal)} {b1 : List ℕ} (text : List ℕ) → text ≡ value_text n shift places → (answer ≡ room_answer b text) × (b1 ≡ room_buffer b text)
        → (answer ≡ printed_answer b n shift places) × (b1 ≡ printed_buffer b n shift places)
    value_written text e p = (p.0 ∙ ap (room_answer b) e ∙ room_left.0, p.1 ∙ ap (room_buffer b) e ∙ room_left.1)
