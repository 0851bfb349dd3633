-- Laws of what is kept of a gyro axis beside its total, in 02's order (02, 2.5). Assumes nothing.
use Prim.Native.Nat.{ℕ, ◌+◌, ◌≤◌, ◌<◌, min}
use mathlib.Core.Bool.{Bool, true, false, ◌||◌}
use mathlib.Core.Logic.{◌⊎◌, inl, inr}
use mathlib.Core.Path.{◌≡◌, refl, ap, ◌∙◌}
use native.Mathlib.Omega.{arith}
use borrow.Author.Tests.{lt-ltb, le-ltb, ltb-true, ltb-false, eqb-true, ne_eqb}
use lib.Dec.{eqb, ltb}
use Rattle.integers.proofs.Booleans.{or_true, or_none, or_split}
use Rattle.setup.proofs.Refusals.{each}
use Rattle.gaps.specs.Gaps.{samples, elapsed}
use Rattle.gaps.specs.declared.Samples.{Samples}
use Rattle.motion.specs.Status.{fit, unfit}
use Rattle.motion.specs.Totals.{axis_in}
use Rattle.motion.specs.Totals.{GroupAxes}
use Rattle.doubt.specs.declared.AxisDoubt.{AxisDoubt}
use Rattle.doubt.specs.Doubt.{GyroDoubt}
use Rattle.doubt.specs.DoubtRules.{DoubtRules}
use Rattle.doubt.specs.Doubt.{added, greatest_sum, sum_with, most_samples, marks, no_doubt, fit_doubt, unfit_doubt, doubt_step, kept_doubt}
use Rattle.doubt.specs.Doubt.{no_gyro_doubt, doubt_at, gyro_step, marks_of, mark_at}

-- ---- what a datagram adds

pub first_adds : (previous counter : ℕ) → added true previous counter ≡ samples 0
unfolding added
first_adds previous counter = refl

pub later_adds : (previous counter : ℕ) → added false previous counter ≡ elapsed previous counter
unfolding added
later_adds previous counter = refl

-- ---- the sum

-- it is at most 65,535
sum_most : (s d : Samples) → (sum_with s d).0 ≤ 65535
unfolding sum_with
sum_most s d = omega arith

-- the stop loses nothing: a sum that was stopped before is that of all, stopped; and a stopped sum is above 16 exactly if the sum is
pub stopped_once : (n d : ℕ) → sum_with (samples (min n greatest_sum)) (samples d) ≡ samples (min (n + d) greatest_sum)
unfolding sum_with
stopped_once n d =
    let e : min (min n 65535 + d) 65535 ≡ min (n + d) 65535 = omega arith in
    ap samples e

pub stop_above : (n : ℕ) → (16 < n → 16 < min n greatest_sum) × (16 < min n greatest_sum → 16 < n)
stop_above n = (λ h. omega arith, λ h. omega arith)

-- ---- the mark

-- a sum above 16 marks, at any rate; so does external trigger, with any sum; and nothing else
pub far_marks : (rate : ℕ) (s : Samples) → 16 < s.0 → marks rate s ≡ true
unfolding marks
far_marks rate s h = rw (lt-ltb most_samples s.0 (omega arith))

pub trigger_marks : (s : Samples) → marks 0 s ≡ true
unfolding marks
trigger_marks s = or_true (ltb most_samples s.0) refl

-- else the sum is at most 16
pub near_unmarked : (rate : ℕ) (s : Samples) → marks rate s ≡ false → s.0 ≤ 16
unfolding marks
near_unmarked rate s e = omega (arith, ltb-false most_samples s.0 (or_split (ltb most_samples s.0) (eqb rate 0) e).0)

pub marked_why : (rate : ℕ) (s : Samples) → marks rate s ≡ true → (16 < s.0) ⊎ (rate ≡ 0)
unfolding marks
marked_why rate s e = by (ltb most_samples s.0) refl e
  where
    by : (b : Bool) → ltb most_samples s.0 ≡ b → (b || eqb rate 0) ≡ true → (16 < s.0) ⊎ (rate ≡ 0)
    by true p x = inl (omega (arith, ltb-true most_samples s.0 p))
    by false p x = inr (eqb-true rate 0 x)

unmarked_near : (rate : ℕ) (s : Samples) → s.0 ≤ 16 → 0 < rate → marks rate s ≡ false
unfolding marks
unmarked_near rate s h k = rw (le-ltb most_samples s.0 (omega arith), ne_eqb rate 0 (λ e. omega arith))

-- ---- one axis

-- a mark stays
pub mark_stays : (rate : ℕ) (begun fit : Bool) (a : AxisDoubt) (d : Samples) → a.marked ≡ true → (doubt_step rate begun fit a d).marked ≡ true
unfolding doubt_step fit_doubt unfit_doubt
mark_stays rate begun true a d e = rw e
mark_stays rate true false a d e = e
mark_stays rate false false a d e = e

-- an unfit datagram marks nothing
unfit_mark : (rate : ℕ) (begun : Bool) (a : AxisDoubt) (d : Samples) → (doubt_step rate begun false a d).marked ≡ a.marked
unfolding doubt_step unfit_doubt
unfit_mark rate true a d = refl
unfit_mark rate false a d = refl

-- an axis that has not begun behind a datagram, or whose first fit one it was, is as it was before any
pub idle_step : (rate : ℕ) (fit : Bool) (d : Samples) → doubt_step rate false fit no_doubt d ≡ no_doubt
unfolding doubt_step fit_doubt unfit_doubt
idle_step rate true d = refl
idle_step rate false d = refl

-- an unfit one adds its samples to the sum, stopping at 65,535
unfit_adds : (rate : ℕ) (a : AxisDoubt) (d : Samples) → (doubt_step rate true false a d).samples.0 ≡ min (a.samples.0 + d.0) 65535
unfolding doubt_step unfit_doubt sum_with
unfit_adds rate a d = refl

-- so it stays at most 65,535
pub step_most : (rate : ℕ) (begun fit : Bool) (a : AxisDoubt) (d : Samples) → a.samples.0 ≤ 65535 → (doubt_step rate begun fit a d).samples.0 ≤ 65535
unfolding doubt_step fit_doubt unfit_doubt
step_most rate begun true a d h = omega arith
step_most rate true false a d h = sum_most a.samples d
step_most rate false false a d h = h

-- ---- clause by clause

fit_mark : (rate : ℕ) (a : AxisDoubt) (d : Samples) (b : Bool) → marks rate (sum_with a.samples d) ≡ b → (doubt_step rate true true a d).marked ≡ (a.marked || b)
unfolding doubt_step fit_doubt
fit_mark rate a d b e = ap (λ (c : Bool). a.marked || c) e

sum_far : (s d : Samples) → 16 < s.0 + d.0 → 16 < (sum_with s d).0
unfolding sum_with
sum_far s d h = omega arith

sum_near : (s d : Samples) → s.0 + d.0 ≤ 16 → (sum_with s d).0 ≤ 16
unfolding sum_with
sum_near s d h = omega arith

near_keeps : (rate : ℕ) (a : AxisDoubt) (d : Samples) → 0 < rate → a.samples.0 + d.0 ≤ 16 → (doubt_step rate true true a d).marked ≡ a.marked
near_keeps rate a d h k = fit_mark rate a d false (unmarked_near rate (sum_with a.samples d) (sum_near a.samples d k) h) ∙ or_none a.marked

pub doubt_rules : DoubtRules
unfolding doubt_step fit_doubt unfit_doubt sum_with gyro_step kept_doubt marks marks_of unfit
doubt_rules =
    record {
      later_adds = later_adds;
      first_adds = λ p c. ap (λ (s : Samples). s.0) (first_adds p c);
      unfit_adds = unfit_adds;
      unfit_keeps = λ rate begun a d. unfit_mark rate begun a d;
      fit_ends = λ rate begun a d. refl;
      far_marks = λ rate a d h. fit_mark rate a d true (far_marks rate (sum_with a.samples d) (sum_far a.samples d h)) ∙ or_true a.marked refl;
      trigger_marks = λ a d. fit_mark 0 a d true (trigger_marks (sum_with a.samples d)) ∙ or_true a.marked refl;
      near_keeps = near_keeps;
      stays = mark_stays;
      idle = idle_step;
      stop_adds = stopped_once;
      stop_far = stop_above;
      each_axis = refl;
      each_mark = λ g. refl;
      full_rate = refl;
      sixteen = omega arith;
      seventeen = omega arith;
    }

-- ---- the gyro's axes one by one

pub gyro_step_at : (rate : ℕ) (kept : Bool) (axes : GroupAxes) (g : GyroDoubt) (status : ℕ) (d : Samples) (axis : ℕ) → axis < 3
    → doubt_at (gyro_step rate kept axes g status d) axis ≡ kept_doubt rate kept (axis_in axes axis).begun (fit status axis) (doubt_at g axis) d
unfolding gyro_step
gyro_step_at rate kept axes g status d =
    each
    (λ axis.
    doubt_at (gyro_step rate kept axes g status d) axis ≡ kept_doubt rate kept (axis_in axes axis).begun (fit status axis) (doubt_at g axis) d)
    refl refl refl

pub mark_at_lem : (g : GyroDoubt) (axis : ℕ) → axis < 3 → mark_at (marks_of g) axis ≡ (doubt_at g axis).marked
unfolding marks_of
mark_at_lem g = each (λ axis. mark_at (marks_of g) axis ≡ (doubt_at g axis).marked) refl refl refl

pub no_doubt_at : (axis : ℕ) → axis < 3 → doubt_at no_gyro_doubt axis ≡ no_doubt
no_doubt_at = each (λ axis. doubt_at no_gyro_doubt axis ≡ no_doubt) refl refl refl

-- where totals are kept it goes by the rule for one axis, and else stays as it is
pub kept_doubt_lem : (rate : ℕ) (kept begun fit : Bool) (a : AxisDoubt) (d : Samples) → kept ≡ true → kept_doubt rate kept begun fit a d ≡ doubt_step rate begun fit a d
unfolding kept_doubt
kept_doubt_lem rate kept begun fit a d e = rw e

pub unkept_doubt : (rate : ℕ) (kept begun fit : Bool) (a : AxisDoubt) (d : Samples) → kept ≡ false → kept_doubt rate kept begun fit a d ≡ a
unfolding kept_doubt
unkept_doubt rate kept begun fit a d e = rw e
