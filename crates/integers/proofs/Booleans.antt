-- Two or three tests at once: what each of them gave, from what they gave together, and the other way. Assumes nothing.
use mathlib.Core.Path.{◌≡◌, refl, ap}
use mathlib.Core.Bool.{Bool, true, false, ◌&&◌, ◌||◌}
use Prim.Native.Nat.{ℕ, zero, suc, ◌<◌}
use native.Mathlib.Omega.{arith}

pub and_split : (s t : Bool) → (s && t) ≡ true → (s ≡ true) × (t ≡ true)
and_split true t e = (refl, e)
and_split false t e = let z : ◌≡◌ {A = ℕ} 0 1 = cc in let w : ⊥ = omega arith in absurd w

pub and_true : {s t : Bool} → s ≡ true → t ≡ true → s && t ≡ true
and_true p q = rw (p, q)

-- three tests, by their place
pub three_split : (f : ℕ → Bool) → (f 0 && f 1 && f 2) ≡ true → (k : ℕ) → k < 3 → f k ≡ true
three_split f e zero h = (and_split (f 0) (f 1) (and_split (f 0 && f 1) (f 2) e).0).0
three_split f e (suc zero) h = (and_split (f 0) (f 1) (and_split (f 0 && f 1) (f 2) e).0).1
three_split f e (suc (suc zero)) h = (and_split (f 0 && f 1) (f 2) e).1
three_split f e (suc (suc (suc k))) h = absurd (omega arith)

pub three_true : (f : ℕ → Bool) → ((k : ℕ) → k < 3 → f k ≡ true) → (f 0 && f 1 && f 2) ≡ true
three_true f h = and_true (and_true (h 0 (omega arith)) (h 1 (omega arith))) (h 2 (omega arith))

pub or_true : (s : Bool) {t : Bool} → t ≡ true → (s || t) ≡ true
or_true true e = refl
or_true false e = e

pub or_none : (s : Bool) → (s || false) ≡ s
or_none true = refl
or_none false = refl

-- one of three tests, by its place, and none of them
pub three_any : (f : ℕ → Bool) (k : ℕ) → k < 3 → f k ≡ true → (f 0 || f 1 || f 2) ≡ true
three_any f zero h e = rw e
three_any f (suc zero) h e = ap (λ (t : Bool). t || f 2) (or_true (f 0) e)
three_any f (suc (suc zero)) h e = or_true (f 0 || f 1) e
three_any f (suc (suc (suc k))) h e = absurd (omega arith)

pub three_none : (f : ℕ → Bool) → ((k : ℕ) → k < 3 → f k ≡ false) → (f 0 || f 1 || f 2) ≡ false
three_none f h = rw (h 0 (omega arith), h 1 (omega arith), h 2 (omega arith))

pub or_split : (s t : Bool) → (s || t) ≡ false → (s ≡ false) × (t ≡ false)
or_split false t e = (refl, e)
or_split true t e = let z : ◌≡◌ {A = ℕ} 0 1 = cc in let w : ⊥ = omega arith in absurd w
