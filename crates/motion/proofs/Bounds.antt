-- Bounds of what is kept of an axis: a total grows by at most 2 ^ 23 in size with a datagram, so it stays within 2 ^ 53 (01, Totals).
-- Assumes nothing.
use Rattle.std.proofs.Common.{◌≡◌, ℕ, zero, suc, ◌+◌, ◌*◌, ◌^◌, ◌<◌, ◌≤◌, Bool, true, false, cond, ◌&&◌, ◌||◌, List, [], ◌∷◌, length, get_or, take, ℤ, ◌-ℤ◌, nat_abs, sym, refl, ap, ◌∙◌, arith}
use Rattle.integers.specs.Ranges.{within}
use Rattle.integers.proofs.Booleans.{or_true, or_none}
use Rattle.integers.proofs.Sizes.{abs_add}
use Rattle.integers.proofs.Ranges.{le_within}
use Rattle.integers.proofs.Folding.{InRange, abs_of_range, fold_range}
use Rattle.motion.specs.declared.Axis.{Axis}
use Rattle.motion.specs.Totals.{Sighting, difference, fit_step, axis_step, kept_step, after, none}

-- a difference stays in -8388608 .. 8388607
pub difference_range : (new old : ℤ) → InRange (difference new old)
unfolding difference
difference_range new old = fold_range (new -ℤ old)

pub difference_bound : (new old : ℤ) → nat_abs (difference new old) ≤ 8388608
difference_bound new old = abs_of_range (difference new old) (difference_range new old)

-- ---- a law on an axis is kept by a step if it is kept by a fit reading

axis_keeps : (P : Axis → Type 0) (a : Axis) (d : Sighting) → P a → P (fit_step a d.reading) → P (axis_step a d)
unfolding axis_step
axis_keeps P a d p q = by d.fit
  where
    by : (b : Bool) → P (cond b (fit_step a d.reading) a)
    by true = q
    by false = p

kept_keeps : (P : Axis → Type 0) (kept : Bool) (a : Axis) (d : Sighting) → P a → P (axis_step a d) → P (kept_step kept a d)
unfolding kept_step
kept_keeps P kept a d p q = by (kept && within (2 ^ 53) a.total)
  where
    by : (b : Bool) → P (cond b (axis_step a d) a)
    by true = q
    by false = p

-- ---- the total

abbrev Bounded : ℕ → Axis → Type 0
Bounded n a = nat_abs a.total ≤ n * 8388608

fit_bound : (a : Axis) (r : ℤ) (n : ℕ) → Bounded n a → Bounded (suc n) (fit_step a r)
unfolding fit_step
fit_bound a r n h = by a.begun refl
  where
    by : (b : Bool) → a.begun ≡ b → nat_abs (fit_step a r).total ≤ suc n * 8388608
    by true e = rw e (omega (arith, abs_add a.total (difference r a.last), difference_bound r a.last))
    by false e = rw e (omega arith)

axis_bound : (a : Axis) (d : Sighting) (n : ℕ) → nat_abs a.total ≤ n * 8388608 → nat_abs (axis_step a d).total ≤ suc n * 8388608
axis_bound a d n h = axis_keeps (Bounded (suc n)) a d (omega arith) (fit_bound a d.reading n h)

-- n datagrams of 2 ^ 23 steps each, and one more
pub step_bound : (kept : Bool) (a : Axis) (d : Sighting) (n : ℕ) → nat_abs a.total ≤ n * 8388608
    → nat_abs (kept_step kept a d).total ≤ suc n * 8388608
step_bound kept a d n h = kept_keeps (Bounded (suc n)) kept a d (omega arith) (axis_bound a d n h)

-- they stay within 2 ^ 53 as long as there are at most 2 ^ 30 datagrams
pub total_small : (n : ℕ) (z : ℤ) → n ≤ 2 ^ 30 → nat_abs z ≤ n * 8388608 → nat_abs z ≤ 2 ^ 53
total_small n z h b = omega arith

-- ---- the last reading stays in 24 bits if the readings are

pub last_range : (kept : Bool) (a : Axis) (d : Sighting) → InRange a.last → InRange d.reading → InRange (kept_step kept a d).last
unfolding fit_step
last_range kept a d p q = kept_keeps (λ x. InRange x.last) kept a d p (axis_keeps (λ x. InRange x.last) a d p q)

-- ---- an axis that has not begun after a step is as it was

pub not_begun : (kept : Bool) (a : Axis) (d : Sighting) → (kept_step kept a d).begun ≡ false → kept_step kept a d ≡ a
unfolding fit_step
not_begun kept a d =
    kept_keeps (λ x. x.begun ≡ false → x ≡ a) kept a d (λ e. refl)
    (axis_keeps (λ x. x.begun ≡ false → x ≡ a) a d (λ e. refl) (λ e. let z : ◌≡◌ {A = ℕ} 0 1 = cc in absurd (omega arith)))

-- ---- an axis that keeps no total stays as it is, and one that keeps it goes by 01's step

pub step_not_kept : (a : Axis) (d : Sighting) → kept_step false a d ≡ a
unfolding kept_step
step_not_kept a d = refl

pub step_within : (a : Axis) (d : Sighting) → nat_abs a.total ≤ 2 ^ 53 → kept_step true a d ≡ axis_step a d
unfolding kept_step
step_within a d h = rw (le_within (2 ^ 53) a.total h)

-- ---- an axis has begun behind a fit datagram, and behind any if it had

begun_by : (a : Axis) (d : Sighting) (b : Bool) → d.fit ≡ b → (axis_step a d).begun ≡ (a.begun || b)
unfolding axis_step fit_step
begun_by a d true e = rw e (sym (or_true a.begun {t = true} refl))
begun_by a d false e = rw e (sym (or_none a.begun))

pub begun_next : (a : Axis) (d : Sighting) → nat_abs a.total ≤ 2 ^ 53 → (kept_step true a d).begun ≡ (a.begun || d.fit)
begun_next a d h = ap (λ (x : Axis). x.begun) (step_within a d h) ∙ begun_by a d d.fit refl

-- ---- over a list of datagrams

unfoldable pub kept_after : Bool → Axis → List Sighting → Axis
kept_after kept a [] = a
kept_after kept a (d ∷ ds) = kept_after kept (kept_step kept a d) ds

-- up to a place, and one more
pub after_next : (kept : Bool) (a : Axis) (ds : List Sighting) (i : ℕ) → i < length ds
    → kept_after kept a (take (suc i) ds) ≡ kept_step kept (kept_after kept a (take i ds)) (get_or ds i none)
unfolding kept_after
after_next kept a [] i h = absurd (omega arith)
after_next kept a (d ∷ ds) zero h = refl
after_next kept a (d ∷ ds) (suc i) h = after_next kept (kept_step kept a d) ds i (omega arith)

-- an axis that keeps no total
pub after_not_kept : (a : Axis) (ds : List Sighting) → kept_after false a ds ≡ a
unfolding kept_after
after_not_kept a [] = refl
after_not_kept a (d ∷ ds) = after_not_kept (kept_step false a d) ds ∙ step_not_kept a d

pub after_within : (a : Axis) (ds : List Sighting) (n : ℕ) → nat_abs a.total ≤ n * 8388608 → n + length ds ≤ 2 ^ 30
    → kept_after true a ds ≡ after a ds
unfolding kept_after after
after_within a [] n h k = refl
after_within a (d ∷ ds) n h k =
    ap (λ (x : Axis). kept_after true x ds) (step_within a d (total_small n a.total (omega arith) h))
    ∙ after_within (axis_step a d) ds (suc n) (axis_bound a d n h) (omega arith)

pub after_bound : (kept : Bool) (a : Axis) (ds : List Sighting) (n : ℕ) → nat_abs a.total ≤ n * 8388608
    → nat_abs (kept_after kept a ds).total ≤ (n + length ds) * 8388608
unfolding kept_after
after_bound kept a [] n h = omega arith
after_bound kept a (d ∷ ds) n h = let k = after_bound kept (kept_step kept a d) ds (suc n) (step_bound kept a d n h) in omega arith
