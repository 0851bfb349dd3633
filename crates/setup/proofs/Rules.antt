-- Laws of the answer by rules in checking order: the first that applies gives the number.
use Prim.Native.Nat.{ℕ, ◌≤◌}
use native.Mathlib.Omega.{arith}
use mathlib.Core.Bool.{Bool, true, false, cond}
use mathlib.Core.List.{List, [], ◌∷◌, ◌++◌}
use mathlib.Core.Logic.{◌⊎◌, inl, inr}
use mathlib.Core.Option.{Option, none, some}
use mathlib.Core.Path.{◌≡◌, refl, sym, ap, ◌∙◌}
use lib.ListN.{length, drop}
use Rattle.std.specs.Prelude.{Ok, Err}
use Rattle.refusals.specs.Refusals.{number_of, number_in, Ruling}
use Rattle.refusals.specs.declared.Refusal.{Refusal}
use Rattle.setup.specs.Setup.{Rule, first_refusal, first_number, ruling_number, ruling_with, first_of, buffer_by}
use Rattle.setup.specs.Setup.{setup_rules, setup_refusal, setup_number, ruling_on}
use Rattle.setup.specs.declared.Setup.{Setup}

-- ---- a ruling and its number

pub ruling_number_with : (o : Option Refusal) → ruling_number (ruling_with o) ≡ number_in o
ruling_number_with none = refl
ruling_number_with (some e) = refl

pub first_number_lem : (rs : List Rule) → ruling_number (first_of rs) ≡ first_number rs
first_number_lem rs = ruling_number_with (first_refusal rs)

-- the case of a ruling by its number
pub none_accepted : (r : Ruling) → ruling_number r ≡ none → r ≡ Ok tt
none_accepted (Ok tt) q = refl
none_accepted (Err e) q = let z : ◌≡◌ {A = ℕ} 0 1 = cc in absurd (omega arith)

pub some_refused : (r : Ruling) {n : ℕ} → ruling_number r ≡ some n → (e : Refusal) × (r ≡ Err e) × (number_of e ≡ n)
some_refused (Ok tt) q = let z : ◌≡◌ {A = ℕ} 0 1 = cc in absurd (omega arith)
some_refused (Err e) q = (e, refl, cc)

-- by what refuses, or nothing
pub accepted_refusal : (rs : List Rule) → first_of rs ≡ Ok tt → first_refusal rs ≡ none
accepted_refusal rs q = by (first_refusal rs) q
  where
    by : (o : Option Refusal) → ruling_with o ≡ Ok tt → o ≡ none
    by none q = refl
    by (some e) q = let z : ◌≡◌ {A = ℕ} 0 1 = cc in absurd (omega arith)

pub refused_refusal : (rs : List Rule) {e : Refusal} → first_of rs ≡ Err e → first_refusal rs ≡ some e
refused_refusal rs {e} q = by (first_refusal rs) q
  where
    by : (o : Option Refusal) → ruling_with o ≡ Err e → o ≡ some e
    by none q = let z : ◌≡◌ {A = ℕ} 0 1 = cc in absurd (omega arith)
    by (some f) q = cc

pub none_refusal : (rs : List Rule) → first_number rs ≡ none → first_refusal rs ≡ none
none_refusal rs q = by (first_refusal rs) q
  where
    by : (o : Option Refusal) → number_in o ≡ none → o ≡ none
    by none q = refl
    by (some e) q = let z : ◌≡◌ {A = ℕ} 0 1 = cc in absurd (omega arith)

pub some_refusal : (rs : List Rule) {n : ℕ} → first_number rs ≡ some n → (e : Refusal) × (first_refusal rs ≡ some e) × (number_of e ≡ n)
some_refusal rs {n} q = by (first_refusal rs) q
  where
    by : (o : Option Refusal) → number_in o ≡ some n → (e : Refusal) × (o ≡ some e) × (number_of e ≡ n)
    by none q = let z : ◌≡◌ {A = ℕ} 0 1 = cc in absurd (omega arith)
    by (some e) q = (e, refl, cc)

-- a setup that nothing refuses is accepted
pub number_accepted : (u : Setup) → setup_number u ≡ none → ruling_on u ≡ Ok tt
unfolding setup_number ruling_on
number_accepted u e = ap ruling_with (none_refusal (setup_rules u) e)

pub refusal_refused : (u : Setup) {e : Refusal} → setup_refusal u ≡ some e → ruling_on u ≡ Err e
unfolding setup_refusal ruling_on
refusal_refused u q = ap ruling_with q

pub number_refused : (u : Setup) {n : ℕ} → setup_number u ≡ some n → (e : Refusal) × (ruling_on u ≡ Err e) × (number_of e ≡ n)
unfolding setup_number ruling_on
number_refused u q = some_refused (first_of (setup_rules u)) (first_number_lem (setup_rules u) ∙ q)

pub accepted_number : (u : Setup) → ruling_on u ≡ Ok tt → setup_number u ≡ none
unfolding setup_number ruling_on
accepted_number u e = sym (first_number_lem (setup_rules u)) ∙ ap ruling_number e

pub ruling_number_lem : (u : Setup) → ruling_number (ruling_on u) ≡ setup_number u
unfolding setup_number ruling_on
ruling_number_lem u = first_number_lem (setup_rules u)

-- ---- the number that comes out is one of the rules'

abbrev pub Within : ℕ → ℕ → List Rule → Type 0
Within low high [] = Unit {0}
Within low high (r ∷ rs) = (low ≤ number_of r.refusal) × (number_of r.refusal ≤ high) × Within low high rs

pub number_within : (low high : ℕ) (rs : List Rule) {n : ℕ} → Within low high rs → first_number rs ≡ some n → (low ≤ n) × (n ≤ high)
number_within low high [] w e = let z : ◌≡◌ {A = ℕ} 0 1 = cc in absurd (omega arith)
number_within low high (r ∷ rs) {n} w e = by r.applies e (number_within low high rs w.2)
  where
    by : (b : Bool) → number_in (cond b (some r.refusal) (first_refusal rs)) ≡ some n → (first_number rs ≡ some n → (low ≤ n) × (n ≤ high)) → (low ≤ n) × (n ≤ high)
    by true e f = let s : number_of r.refusal ≡ n = cc in let l = w.0 in let h = w.1 in omega arith
    by false e f = f e

pub first_within : (low high : ℕ) (rs : List Rule) {e : Refusal} → Within low high rs → first_of rs ≡ Err e → (low ≤ number_of e) × (number_of e ≤ high)
first_within low high rs w q = number_within low high rs w (ap number_in (refused_refusal rs q))

-- ---- what a ruling leaves of a lent buffer

pub buffer_refused : (j : Ruling) (text b : List ℕ) {e : Refusal} → j ≡ Err e → buffer_by j text b ≡ b
buffer_refused j text b q = rw q

pub buffer_accepted : (j : Ruling) (text b : List ℕ) → j ≡ Ok tt → buffer_by j text b ≡ text ++ drop (length text) b
buffer_accepted j text b e = rw e

-- ---- accepted is what no rule applies to

abbrev pub NoneApplies : List Rule → Type 0
NoneApplies [] = Unit {0}
NoneApplies (r ∷ rs) = (r.applies ≡ false) × NoneApplies rs

pub none_refuses : (rs : List Rule) → first_refusal rs ≡ none → NoneApplies rs
none_refuses [] q = tt
none_refuses (r ∷ rs) q = by r.applies refl q (none_refuses rs)
  where
    by :
        (b : Bool) → r.applies ≡ b → cond b (some r.refusal) (first_refusal rs) ≡ none → (first_refusal rs ≡ none → NoneApplies rs)
        → (r.applies ≡ false) × NoneApplies rs
    by true a q f = let z : ◌≡◌ {A = ℕ} 0 1 = cc in absurd (omega arith)
    by false a q f = (a, f q)

pub none_applies : (rs : List Rule) → first_of rs ≡ Ok tt → NoneApplies rs
none_applies rs q = none_refuses rs (accepted_refusal rs q)

-- ---- rules in two lists, the one after the other: what the first refuses stays refused, what it accepts is left to the second

none_before : (rs ss : List Rule) → NoneApplies rs → first_refusal (rs ++ ss) ≡ first_refusal ss
none_before [] ss h = refl
none_before (r ∷ rs) ss h = rw h.0 (none_before rs ss h.1)

some_before : (rs ss : List Rule) {e : Refusal} → first_refusal rs ≡ some e → first_refusal (rs ++ ss) ≡ some e
some_before [] ss q = let z : ◌≡◌ {A = ℕ} 0 1 = cc in absurd (omega arith)
some_before (r ∷ rs) ss {e} q = by r.applies q (some_before rs ss)
  where
    by :
        (b : Bool) → cond b (some r.refusal) (first_refusal rs) ≡ some e → (first_refusal rs ≡ some e → first_refusal (rs ++ ss) ≡ some e)
        → cond b (some r.refusal) (first_refusal (rs ++ ss)) ≡ some e
    by true q f = q
    by false q f = f q

pub first_accepted : (rs ss : List Rule) → first_of rs ≡ Ok tt → first_of (rs ++ ss) ≡ first_of ss
first_accepted rs ss q = ap ruling_with (none_before rs ss (none_applies rs q))

pub first_refused : (rs ss : List Rule) {e : Refusal} → first_of rs ≡ Err e → first_of (rs ++ ss) ≡ Err e
first_refused rs ss q = ap ruling_with (some_before rs ss (refused_refusal rs q))

-- and what the two together say is said by one of them
pub refused_split : (rs ss : List Rule) {e : Refusal} → first_of (rs ++ ss) ≡ Err e → (first_of rs ≡ Err e) ⊎ (first_of ss ≡ Err e)
refused_split rs ss {e} q = by (first_of rs) refl
  where
    by : (j : Ruling) → first_of rs ≡ j → (first_of rs ≡ Err e) ⊎ (first_of ss ≡ Err e)
    by (Ok tt) a = inr (sym (first_accepted rs ss a) ∙ q)
    by (Err f) a = inl (a ∙ sym (first_refused rs ss a) ∙ q)

pub accepted_split : (rs ss : List Rule) → first_of (rs ++ ss) ≡ Ok tt → (first_of rs ≡ Ok tt) × (first_of ss ≡ Ok tt)
accepted_split rs ss q = by (first_of rs) refl
  where
    by : (j : Ruling) → first_of rs ≡ j → (first_of rs ≡ Ok tt) × (first_of ss ≡ Ok tt)
    by (Ok tt) a = (a, sym (first_accepted rs ss a) ∙ q)
    by (Err f) a = let g = first_refused rs ss a in let z : ◌≡◌ {A = ℕ} 0 1 = cc in absurd (omega arith)
