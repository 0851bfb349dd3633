-- Laws of gaps (01, Status, doubles, gaps). Assumes nothing.
use Prim.Native.Nat.{ℕ, zero, suc, ◌+◌, ◌-◌, ◌*◌, ◌/◌, ◌%◌, ◌≤◌, ◌<◌}
use mathlib.Core.Bool.{Bool, true, false, cond}
use mathlib.Core.Option.{Option, none, some}
use mathlib.Core.Path.{◌≡◌, refl, sym, ap, ◌∙◌}
use native.Mathlib.Nat.{div-add-mod', le-div_iff_mul-le, zero-mul, mul-mod_left, mul-div_cancel}
use native.Mathlib.Omega.{arith}
use lib.Dec.{eqb}
use lib.IntN.{pos, ◌-ℤ◌}
use borrow.Author.Tests.{eqb-true, eqb-false, ne_eqb}
use Rattle.integers.specs.Rounding.{residue}
use Rattle.integers.proofs.Parts.{sub_parts}
use Rattle.integers.proofs.Rounding.{residue_below, floor_split}
use Rattle.gaps.specs.declared.Samples.{Samples}
use Rattle.gaps.specs.declared.Datagrams.{Datagrams}
use Rattle.gaps.specs.Gaps.{samples, datagrams, missed_in, gap_with, step_at, elapsed, missed_after, missed_at}

-- the samples between two counters as code has them
modulo_bytes : (previous counter : ℕ) → previous ≤ 256 → (counter + 256 - previous) % 256 ≡ residue (pos counter -ℤ pos previous) 256
modulo_bytes p n h =
    let z = pos n -ℤ pos p in
    let s = floor_split z 256 (omega arith) in
    let r = residue_below z 256 (omega arith) in
    let e = sub_parts (pos n) (pos p) in
    omega arith

pub elapsed_code : (previous counter d : ℕ) → previous ≤ 256 → d ≡ (counter + 256 - previous) % 256
    → samples (cond (eqb d 0) 256 d) ≡ elapsed previous counter
unfolding elapsed
elapsed_code p n d h e = ap (λ (x : ℕ). samples (cond (eqb x 0) 256 x)) (e ∙ modulo_bytes p n h)

-- from 1 to 256 samples go by
picked : (d : ℕ) (b : Bool) → eqb d 0 ≡ b → d < 256 → (0 < cond b 256 d) × (cond b 256 d ≤ 256)
picked d true e h = omega arith
picked d false e h = let k : d ≡ 0 → ⊥ = eqb-false d 0 e in omega arith

pub elapsed_range : (previous counter : ℕ) → (0 < (elapsed previous counter).0) × ((elapsed previous counter).0 ≤ 256)
unfolding elapsed
elapsed_range p n = let d = residue (pos n -ℤ pos p) 256 in picked d (eqb d 0) refl (residue_below (pos n -ℤ pos p) 256 (omega arith))

-- and bring the previous counter to the new one, modulo 256
pub elapsed_back : (previous counter : ℕ) → previous < 256 → counter < 256 → (previous + (elapsed previous counter).0) % 256 ≡ counter
elapsed_back p n h k =
    let d = (n + 256 - p) % 256 in
    let e : (elapsed p n).0 ≡ cond (eqb d 0) 256 d = ap (λ (x : Samples). x.0) (sym (elapsed_code p n d (omega arith) refl)) in
    by (eqb d 0) refl e
  where
    by : (b : Bool) → eqb ((n + 256 - p) % 256) 0 ≡ b → (elapsed p n).0 ≡ cond (eqb ((n + 256 - p) % 256) 0) 256 ((n + 256 - p) % 256) → (p + (elapsed p n).0) % 256 ≡ n
    by true q e = let z : (n + 256 - p) % 256 ≡ 0 = eqb-true ((n + 256 - p) % 256) 0 q in let f : (elapsed p n).0 ≡ 256 = rw q at e in omega arith
    by false q e = let f : (elapsed p n).0 ≡ (n + 256 - p) % 256 = rw q at e in omega arith

-- counters that differ by n samples modulo 256, 1 to 255, have n as their d
pub elapsed_by : (previous counter n : ℕ) → 1 ≤ n → n ≤ 255 → (previous + n) % 256 ≡ counter → (elapsed previous counter).0 ≡ n
unfolding elapsed
elapsed_by p c n h k e =
    let z = pos c -ℤ pos p in
    let r : residue z 256 ≡ n = omega (arith, floor_split z 256 (omega arith), residue_below z 256 (omega arith), sub_parts (pos c) (pos p)) in
    rw (r, ne_eqb n 0 (λ x. omega arith))

-- up to a rate of 2,000 there is a sample at least from one datagram to the next
step_positive : (rate : ℕ) → 0 < rate → rate ≤ 2000 → 0 < 2000 / rate
step_positive r h k = (le-div_iff_mul-le {k = r} {x = 1} {y = 2000} h).1 (omega arith)

-- what s divides is at least once s
pub quotient_positive : (s d : ℕ) → d % s ≡ 0 → 0 < d → 1 ≤ d / s
quotient_positive s d z h = by (d / s) (div-add-mod' d s)
  where
    by : (q : ℕ) → q * s + d % s ≡ d → 1 ≤ q
    by zero e = let k : zero * s ≡ zero = zero-mul s in absurd (omega arith)
    by (suc q) e = omega arith

-- ---- what was missed, by its case

pub missed_with : (m : Option Datagrams) → missed_in (gap_with m) ≡ m
missed_with (some n) = refl
missed_with none = refl

pub first_none : (rate previous counter : ℕ) → missed_at rate true previous counter ≡ some (datagrams 0)
unfolding missed_at
first_none rate previous counter = refl

pub trigger_none : (first : Bool) (previous counter : ℕ) → missed_at 0 first previous counter ≡ some (datagrams 0)
unfolding missed_at
trigger_none true previous counter = refl
trigger_none false previous counter = refl

exact_steps : (s d n : ℕ) → 0 < s → d ≡ (n + 1) * s → missed_after (samples s) (samples d) ≡ some (datagrams n)
unfolding missed_after
exact_steps s d n h e =
    let m : d % s ≡ 0 = ap (λ (x : ℕ). x % s) e ∙ mul-mod_left (n + 1) s in
    let q : d / s ≡ n + 1 = ap (λ (x : ℕ). x / s) e ∙ mul-div_cancel (n + 1) h in
    let f : n + 1 - 1 ≡ n = omega arith in
    rw (m, q, f)

rest : (s d : ℕ) → (d % s ≡ 0 → ⊥) → missed_after (samples s) (samples d) ≡ none
unfolding missed_after
rest s d f = rw (ne_eqb (d % s) 0 f)

-- n datagrams are missed where n + 1 steps went by, and it is off step where no whole number of them did
module _ (rate previous counter : ℕ) (h : 0 < rate) where
  later : missed_at rate false previous counter ≡ missed_after (step_at rate) (elapsed previous counter)
  unfolding missed_at
  later = rw (ne_eqb rate 0 (λ e. omega arith))

  pub missed_steps : (n : ℕ) → rate ≤ 2000 → (elapsed previous counter).0 ≡ (n + 1) * (2000 / rate)
      → missed_at rate false previous counter ≡ some (datagrams n)
  missed_steps n k e = later ∙ exact_steps (2000 / rate) (elapsed previous counter).0 n (step_positive rate h k) e

  pub off_step : ((elapsed previous counter).0 % (2000 / rate) ≡ 0 → ⊥) → missed_at rate false previous counter ≡ none
  off_step e = later ∙ rest (2000 / rate) (elapsed previous counter).0 e
