-- What a sound session's axes are: each of the nine by itself, and that a datagram's step leaves them so (01, What is turned down, 10; 02, 2.5).
-- Assumes nothing.
use mathlib.Core.Path.{◌≡◌, refl, sym, ap, ◌∙◌, subst}
use mathlib.Core.Bool.{Bool, true, false, not, ◌&&◌, ◌||◌}
use mathlib.Core.List.{List, []}
use Prim.Native.Nat.{ℕ, suc, ◌*◌, ◌^◌, ◌≤◌, ◌<◌}
use native.Mathlib.Omega.{arith}
use lib.IntN.{ℤ, pos, nat_abs}
use lib.ListN.{get_or}
use borrow.Author.Tests.{not-true}
use Rattle.integers.specs.Ranges.{is_zero}
use Rattle.integers.proofs.Folding.{InRange}
use Rattle.integers.proofs.Ranges.{within_true, le_within, in_reading_true, range_in_reading, is_zero_true}
use Rattle.integers.proofs.Booleans.{and_split, and_true}
use Rattle.setup.proofs.Refusals.{each}
use Rattle.motion.specs.declared.Axis.{Axis}
use Rattle.motion.specs.Totals.{GroupAxes}
use Rattle.motion.specs.Totals.{Axes}
use Rattle.motion.specs.Totals.{Sighting, no_axis, no_axes, kept_step, seen, stepped, axis_in, axis_at}
use Rattle.motion.proofs.NineAxes.{step_at_lem, none_at}
use Rattle.motion.proofs.Bounds.{step_bound, last_range, not_begun, step_not_kept}
use Rattle.admission.specs.Admission.{total_right, last_right, is_idle, idle_right, start_right, axis_right, group_right, axes_right}

-- ---- one axis

-- after n datagrams: its total is small, its kept reading is in 24 bits, it has begun and keeps a total, or it is all zero, and it has not begun while the
-- next datagram counts as a first one
pub record AxisFacts (kept first : Bool) (n : ℕ) (a : Axis) : Type 0 where
  pub total : nat_abs a.total ≤ n * 8388608
  pub last : InRange a.last
  pub idle : (kept && a.begun) ≡ false → a ≡ no_axis
  pub start : first ≡ true → a.begun ≡ false

idle_none : (a : Axis) → is_idle a ≡ true → a ≡ no_axis
idle_none a e =
    let p = and_split (not a.begun) (is_zero a.last && is_zero a.total) e in
    let q = and_split (is_zero a.last) (is_zero a.total) p.1 in
    let b : a.begun ≡ false = not-true a.begun p.0 in
    let l : a.last ≡ pos 0 = is_zero_true a.last q.0 in
    let t : a.total ≡ pos 0 = is_zero_true a.total q.1 in
    let same : ◌≡◌ {A = Axis} (record { begun = a.begun; last = a.last; total = a.total }) no_axis = rw (b, l, t) in
    same

axis_facts : (kept first : Bool) (n : ℕ) (a : Axis) → axis_right kept first n a ≡ true → AxisFacts kept first n a
unfolding axis_right
axis_facts kept first n a e =
    let p = and_split (total_right n a) (last_right a && (idle_right kept a && start_right first a)) e in
    let q = and_split (last_right a) (idle_right kept a && start_right first a) p.1 in
    let r = and_split (idle_right kept a) (start_right first a) q.1 in
    record {
      total = within_true (n * 2 ^ 23) a.total p.0;
      last = in_reading_true a.last q.0;
      idle = λ f. idle_none a (rw f at r.0);
      start = λ f. not-true a.begun (rw f at r.1);
    }

idle_right_lem : (kept : Bool) (a : Axis) → ((kept && a.begun) ≡ false → a ≡ no_axis) → idle_right kept a ≡ true
idle_right_lem kept a h = by (kept && a.begun) refl
  where
    by : (b : Bool) → (kept && a.begun) ≡ b → (b || is_idle a) ≡ true
    by true q = refl
    by false q = ap is_idle (h q)

start_right_lem : (first : Bool) (a : Axis) → (first ≡ true → a.begun ≡ false) → start_right first a ≡ true
start_right_lem false a h = refl
start_right_lem true a h = ap not (h refl)

facts_axis : (kept first : Bool) (n : ℕ) (a : Axis) → AxisFacts kept first n a → axis_right kept first n a ≡ true
unfolding axis_right
facts_axis kept first n a h =
    and_true (le_within (n * 2 ^ 23) a.total h.total)
    (and_true (range_in_reading a.last h.last) (and_true (idle_right_lem kept a h.idle) (start_right_lem first a h.start)))

-- ---- the axes of a group, and the nine

group_at : (kept first : Bool) (n : ℕ) (g : GroupAxes) → group_right kept first n g ≡ true → (axis : ℕ) → axis < 3 → AxisFacts kept first n (axis_in g axis)
unfolding group_right
group_at kept first n g e =
    let p = and_split (axis_right kept first n g.x) (axis_right kept first n g.y && axis_right kept first n g.z) e in
    let q = and_split (axis_right kept first n g.y) (axis_right kept first n g.z) p.1 in
    each (λ axis. AxisFacts kept first n (axis_in g axis)) (axis_facts kept first n g.x p.0) (axis_facts kept first n g.y q.0)
    (axis_facts kept first n g.z q.1)

each_group : (kept first : Bool) (n : ℕ) (g : GroupAxes) → ((axis : ℕ) → axis < 3 → AxisFacts kept first n (axis_in g axis)) → group_right kept first n g ≡ true
unfolding group_right
each_group kept first n g h =
    and_true (facts_axis kept first n g.x (h 0 (omega arith)))
    (and_true (facts_axis kept first n g.y (h 1 (omega arith))) (facts_axis kept first n g.z (h 2 (omega arith))))

-- kept: which groups keep totals
abbrev pub EachRight : List Bool → Bool → ℕ → Axes → Type 0
EachRight kept first n a = (group axis : ℕ) → group < 3 → axis < 3 → AxisFacts (get_or kept group false) first n (axis_at a group axis)

module _ (kept : List Bool) (first : Bool) (n : ℕ) (a : Axes) where
  pub axes_at_lem : axes_right kept first n a ≡ true → (group axis : ℕ) → group < 3 → axis < 3 → AxisFacts (get_or kept group false) first n (axis_at a group axis)
  unfolding axes_right
  axes_at_lem e group axis h k =
      let p = and_split (group_right (get_or kept 0 false) first n a.gyro) _ e in
      let q = and_split (group_right (get_or kept 1 false) first n a.accelerometer) _ p.1 in
      each (λ m. AxisFacts (get_or kept m false) first n (axis_at a m axis))
      (group_at (get_or kept 0 false) first n a.gyro p.0 axis k)
      (group_at (get_or kept 1 false) first n a.accelerometer q.0 axis k)
      (group_at (get_or kept 2 false) first n a.inclinometer q.1 axis k)
      group h

  pub each_axes : EachRight kept first n a → axes_right kept first n a ≡ true
  unfolding axes_right
  each_axes h =
      and_true (each_group (get_or kept 0 false) first n a.gyro (λ axis k. h 0 axis (omega arith) k))
      (and_true (each_group (get_or kept 1 false) first n a.accelerometer (λ axis k. h 1 axis (omega arith) k))
      (each_group (get_or kept 2 false) first n a.inclinometer (λ axis k. h 2 axis (omega arith) k)))

-- ---- a fresh session's axes

none_facts : (kept first : Bool) (n : ℕ) → AxisFacts kept first n no_axis
none_facts kept first n =
    record { total = omega arith; last = record { above = omega arith; below = omega arith }; idle = λ e. refl; start = λ e. refl }

pub none_right : (kept : List Bool) (first : Bool) → axes_right kept first 0 no_axes ≡ true
none_right kept first =
    each_axes kept first 0 no_axes
    (λ group axis h k.
    subst (λ (a : Axis). AxisFacts (get_or kept group false) first 0 a) (sym (none_at group axis h k)) (none_facts (get_or kept group false) first 0))

-- ---- a datagram's step, for readings in 24 bits: the next one isn't a first one

step_idle : (kept : Bool) (a : Axis) (d : Sighting) → ((kept && a.begun) ≡ false → a ≡ no_axis) → (kept && (kept_step kept a d).begun) ≡ false
    → kept_step kept a d ≡ no_axis
step_idle false a d h e = step_not_kept a d ∙ h refl
step_idle true a d h e = let same = not_begun true a d e in same ∙ h (ap (λ (x : Axis). x.begun) (sym same) ∙ e)

axis_step_lem : (kept first : Bool) (n : ℕ) (a : Axis) (d : Sighting) → InRange d.reading → AxisFacts kept first n a
    → AxisFacts kept false (suc n) (kept_step kept a d)
axis_step_lem kept first n a d r h =
    record {
      total = step_bound kept a d n h.total;
      last = last_range kept a d h.last r;
      idle = step_idle kept a d h.idle;
      start = λ e. let z : ◌≡◌ {A = ℕ} 0 1 = cc in absurd (omega arith);
    }

pub axes_step :
    (kept : List Bool) (first : Bool) (n : ℕ) (a : Axes) (readings : List (List ℤ)) (statuses : List ℕ)
    → ((g k : ℕ) → InRange (get_or (get_or readings g []) k (pos 0)))
    → axes_right kept first n a ≡ true
    → axes_right kept false (suc n) (stepped kept a readings statuses) ≡ true
axes_step kept first n a readings statuses r e =
    each_axes kept false (suc n) (stepped kept a readings statuses)
    (λ g k h m.
    subst (λ (x : Axis). AxisFacts (get_or kept g false) false (suc n) x) (sym (step_at_lem kept a readings statuses g k h m))
    (axis_step_lem (get_or kept g false) first n (axis_at a g k) (seen readings statuses g k) (r g k) (axes_at_lem kept first n a e g k h m)))
