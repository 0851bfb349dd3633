-- What writing the datagram of a line gives, with a setup that is accepted and room for any datagram: 15 alone is left to refuse it. Assumes nothing.
use Prim.Native.Nat.{ℕ, ◌≤◌}
use mathlib.Core.Path.{◌≡◌, refl, sym, ap, ◌∙◌}
use mathlib.Core.Bool.{Bool, true, false}
use mathlib.Core.List.{List, [], ◌++◌}
use native.Mathlib.Omega.{arith}
use lib.ListN.{length, drop}
use Rattle.setup.specs.Setup.{ruling_on}
use Rattle.setup.specs.declared.Setup.{Setup}
use Rattle.setup.proofs.Refusals.{accepted_length}
use Rattle.made_datagram.specs.Making.{made_datagram, outside, made_number, made_bytes, made_answer, made_buffer}
use Rattle.made_datagram.proofs.MadeLaws.{refused_keeps, made_whole, made_outside, made_enough}
use Rattle.rehearsal.specs.RehearsalLine.{readings_in, values_in, rehearsal_of}
use Rattle.rehearsal.specs.declared.Fault.{Fault}
use Rattle.refusals.specs.Refusals.{number_of}
use Rattle.stim_make.specs.MadeLines.{made_with, datagram_of, with_text}
use Rattle.std.specs.Prelude.{Result, Ok, Err}
use Rattle.refusals.specs.declared.Refusal.{Refusal}
use Rattle.refusals.specs.declared.Refusal.TheVariants.{DatagramOutside}

-- what was made of a line: its datagram, or none and 15
module _ (u : Setup) (line b : List ℕ) (ok : ruling_on u ≡ Ok tt) (written : rehearsal_of line ≡ Ok tt) (room : 65 ≤ length b) where
  abbrev is_outside : Bool
  is_outside = outside u (readings_in line) (values_in line)

  abbrev datagram : List ℕ
  datagram = made_datagram u (readings_in line) (values_in line)

  made_by_lem : {o : Bool} → is_outside ≡ o → datagram_of u line ≡ made_with (Ok tt) o datagram
  unfolding datagram_of
  made_by_lem {o} f = ap (λ (w : Result (Unit {0}) Fault). made_with w is_outside datagram) written ∙ ap (λ (x : Bool). made_with (Ok tt) x datagram) f

  module _ {made : Result ℕ Refusal} {b' : List ℕ} (answer : made ≡ made_answer b u (readings_in line) (values_in line)) (buffer : b' ≡ made_buffer b u (readings_in line) (values_in line)) where
    refused : is_outside ≡ true → (made ≡ Err DatagramOutside) × (b' ≡ b)
    refused f =
        let a = made_outside b u (readings_in line) (values_in line) ok f in
        (answer ∙ a, buffer ∙ refused_keeps b u (readings_in line) (values_in line) (ap made_number a))

    passed : is_outside ≡ false → (made ≡ Ok (length datagram)) × (b' ≡ datagram ++ drop (length datagram) b)
    passed f =
        let a = made_enough b u (readings_in line) (values_in line) ok f (omega (arith, room, accepted_length u ok)) in
        let w = made_whole b u (readings_in line) (values_in line) (ap made_number a) in
        (answer ∙ a ∙ ap Ok (sym (ap made_bytes a) ∙ w.1), buffer ∙ w.2)

    -- the buffer has it at its front
    pub made_text : b' ≡ with_text (datagram_of u line) b
    made_text = by is_outside refl
      where
        by : (o : Bool) → is_outside ≡ o → b' ≡ with_text (datagram_of u line) b
        by true f = (refused f).1 ∙ ap (λ (d : List ℕ). with_text d b) (sym (made_by_lem f))
        by false f = (passed f).1 ∙ ap (λ (d : List ℕ). with_text d b) (sym (made_by_lem f))

    pub made_bytes_lem : {count : ℕ} → made ≡ Ok count → count ≡ length (datagram_of u line)
    made_bytes_lem {count} e = by is_outside refl
      where
        by : (o : Bool) → is_outside ≡ o → count ≡ length (datagram_of u line)
        by true f = let r = (refused f).0 in let z : ◌≡◌ {A = ℕ} 0 1 = cc in absurd (omega arith)
        by false f = let p = (passed f).0 in let m : count ≡ length datagram = cc in m ∙ ap length (sym (made_by_lem f))

    pub made_refused : {e : Refusal} → made ≡ Err e → (is_outside ≡ true) × (number_of e ≡ 15) × (0 ≡ length (datagram_of u line))
    made_refused {e} q = by is_outside refl
      where
        by : (o : Bool) → is_outside ≡ o → (is_outside ≡ true) × (number_of e ≡ 15) × (0 ≡ length (datagram_of u line))
        by true f = let r = (refused f).0 in let m : number_of e ≡ 15 = cc in (f, m, ap length (sym (made_by_lem f)))
        by false f = let p = (passed f).0 in let z : ◌≡◌ {A = ℕ} 0 1 = cc in absurd (omega arith)

-- of any other line there is none
pub made_none : (u : Setup) (line : List ℕ) {fault : Fault} → rehearsal_of line ≡ Err fault → datagram_of u line ≡ []
unfolding datagram_of
made_none u line q = rw q
