-- Laws of the answers to a line: the numbers that can come out, and the setup that comes back.
use Prim.Native.Nat.{ℕ, ◌≤◌}
use native.Mathlib.Omega.{arith}
use mathlib.Core.Bool.{Bool, true, false, not, ◌||◌, cond}
use mathlib.Core.List.{List}
use mathlib.Core.Option.{Option, some}
use lib.Dec.{eqb, ltb}
use lib.ListN.{length}
use mathlib.Core.Path.{◌≡◌, refl, sym, ap, ◌∙◌}
use Rattle.setup.specs.Setup.{first_refusal, first_number, ruling_number, ruling_with, first_of, setup_rules, ruling_on, zero_setup}
use Rattle.setup.specs.declared.Setup.{Setup}
use Rattle.std.specs.Prelude.{Result, Ok, Err}
use Rattle.refusals.specs.Refusals.{number_of, Ruling, unless_refused}
use Rattle.refusals.specs.declared.Refusal.{Refusal}
use Rattle.refusals.specs.declared.Refusal.TheVariants.{LineLength, FieldCount, FieldForm}
use Rattle.setup.proofs.Rules.{first_number_lem, first_within, none_applies}
use Rattle.setup_line.specs.SetupLine.{fields_of, line_written, setup_written, line_rules, accepted_setup, read_with, line_read}
use Rattle.setup_line.specs.declared.LineRead.{LineRead}

line_answer_lem : (l : List ℕ) → (line_read l).answer ≡ first_of (line_rules l)
unfolding line_read
line_answer_lem l = by (first_of (line_rules l))
  where
    by : (j : Ruling) → (read_with j (setup_written l)).answer ≡ j
    by (Ok tt) = refl
    by (Err e) = refl

-- a line is refused by 1 to 9 only
pub line_numbers : (l : List ℕ) {e : Refusal} → (line_read l).answer ≡ Err e → (1 ≤ number_of e) × (number_of e ≤ 9)
unfolding line_rules setup_rules
line_numbers l e = first_within 1 9 (line_rules l) (omega arith) (sym (line_answer_lem l) ∙ e)

refused_with : (j : Ruling) (s : Setup) {e : Refusal} → j ≡ Err e → (read_with j s).setup ≡ zero_setup
refused_with (Ok tt) s q = let z : ◌≡◌ {A = ℕ} 0 1 = cc in absurd (omega arith)
refused_with (Err e) s q = refl

-- a refused line gives back a setup of zeros
pub refused_zeros : (l : List ℕ) {e : Refusal} → (line_read l).answer ≡ Err e → (line_read l).setup ≡ zero_setup
unfolding line_read
refused_zeros l e = refused_with (first_of (line_rules l)) (setup_written l) (sym (line_answer_lem l) ∙ e)

accepted_with : (j : Ruling) (s : Setup) → j ≡ Ok tt → (read_with j s).setup ≡ s
accepted_with (Ok tt) s e = refl
accepted_with (Err f) s e = let z : ◌≡◌ {A = ℕ} 0 1 = cc in absurd (omega arith)

-- an accepted line gives back the setup that it writes, which is accepted as values
pub accepted_line : (l : List ℕ) → (line_read l).answer ≡ Ok tt → ((line_read l).setup ≡ setup_written l) × (ruling_on (line_read l).setup ≡ Ok tt)
unfolding line_read line_rules ruling_on
accepted_line l e =
    let a : first_of (line_rules l) ≡ Ok tt = sym (line_answer_lem l) ∙ e in
    let none = none_applies (line_rules l) a in
    let same = accepted_with (first_of (line_rules l)) (setup_written l) a in
    (same, ap ruling_on same ∙ rw (none.0, none.1.0, none.1.1.0) at a)

-- ---- by the number

pub line_number : (l : List ℕ) → ruling_number (line_read l).answer ≡ first_number (line_rules l)
line_number l = ap ruling_number (line_answer_lem l) ∙ first_number_lem (line_rules l)

-- ---- one rule after the other, as the code asks them

pub accepted_in_turn : (l : List ℕ) → accepted_setup l
    ≡ cond (eqb (length l) 0 || ltb 64 (length l)) (Err LineLength)
    (cond (eqb (length (fields_of l)) 9)
    (cond (line_written l) (unless_refused (ruling_on (setup_written l)) (setup_written l)) (Err FieldForm))
    (Err FieldCount))
unfolding accepted_setup line_rules ruling_on
accepted_in_turn l = by (eqb (length l) 0 || ltb 64 (length l)) (eqb (length (fields_of l)) 9) (line_written l)
  where
    rest : Option Refusal
    rest = first_refusal (setup_rules (setup_written l))

    by :
        (one counted written : Bool)
        → unless_refused (ruling_with (cond one (some LineLength) (cond (not counted) (some FieldCount) (cond (not written) (some FieldForm) rest)))) (setup_written l)
        ≡ cond one (Err LineLength) (cond counted (cond written (unless_refused (ruling_with rest) (setup_written l)) (Err FieldForm)) (Err FieldCount))
    by true c w = refl
    by false false w = refl
    by false true false = refl
    by false true true = refl

abbrev pub read_by : Result Setup Refusal → LineRead
read_by (Ok s) = record { answer = Ok tt; setup = s }
read_by (Err e) = record { answer = Err e; setup = zero_setup }

pub read_as_accepted : (l : List ℕ) → line_read l ≡ read_by (accepted_setup l)
unfolding line_read accepted_setup
read_as_accepted l = by (first_of (line_rules l))
  where
    by : (j : Ruling) → read_with j (setup_written l) ≡ read_by (unless_refused j (setup_written l))
    by (Ok tt) = refl
    by (Err e) = refl
