-- The nine axes one by one: a step of an axis depends only on its own state, its own reading and its group's status byte (01, Totals).
-- Assumes nothing.
use Rattle.std.proofs.Common.{◌≡◌, ℕ, ◌<◌, Bool, false, List, [], get_or, ℤ, refl}
use Rattle.setup.specs.declared.Setup.{Setup}
use Rattle.setup.proofs.Refusals.{each}
use Rattle.motion.specs.Totals.{GroupAxes}
use Rattle.motion.specs.Totals.{Axes}
use Rattle.motion.specs.Totals.{no_axis, no_axes, kept_step, keeps, groups_kept, seen_in, seen, group_step, stepped, axis_in, axis_at}
use Rattle.motion.specs.Totals.{total_of, totals_of, total_at}

-- what holds of each of the nine axes holds of an axis of a group
pub each_axis : (P : ℕ → ℕ → Type 0) → P 0 0 × P 0 1 × P 0 2 → P 1 0 × P 1 1 × P 1 2 → P 2 0 × P 2 1 × P 2 2
    → (group axis : ℕ) → group < 3 → axis < 3 → P group axis
each_axis P a b c group axis h k =
    each (λ n. P n axis) (each (P 0) a.0 a.1 a.2 axis k) (each (P 1) b.0 b.1 b.2 axis k)
    (each (P 2) c.0 c.1 c.2 axis k) group h

step_in : (kept : Bool) (g : GroupAxes) (readings : List ℤ) (status axis : ℕ) → axis < 3
    → axis_in (group_step kept g readings status) axis ≡ kept_step kept (axis_in g axis) (seen_in status readings axis)
unfolding group_step
step_in kept g readings status =
    each (λ axis. axis_in (group_step kept g readings status) axis ≡ kept_step kept (axis_in g axis) (seen_in status readings axis)) refl refl refl

-- an axis after a datagram
pub step_at_lem : (kept : List Bool) (a : Axes) (readings : List (List ℤ)) (statuses : List ℕ) (group axis : ℕ) → group < 3 → axis < 3
    → axis_at (stepped kept a readings statuses) group axis
    ≡ kept_step (get_or kept group false) (axis_at a group axis) (seen readings statuses group axis)
unfolding stepped
step_at_lem kept a readings statuses group axis h k =
    each (λ n. axis_at (stepped kept a readings statuses) n axis ≡ kept_step (get_or kept n false) (axis_at a n axis) (seen readings statuses n axis))
    (step_in (get_or kept 0 false) a.gyro (get_or readings 0 []) (get_or statuses 0 0) axis k)
    (step_in (get_or kept 1 false) a.accelerometer (get_or readings 1 []) (get_or statuses 1 0) axis k)
    (step_in (get_or kept 2 false) a.inclinometer (get_or readings 2 []) (get_or statuses 2 0) axis k)
    group h

-- whether a group keeps a total
pub kept_at : (s : Setup) (group : ℕ) → group < 3 → get_or (groups_kept s) group false ≡ keeps s group
unfolding groups_kept
kept_at s = each (λ n. get_or (groups_kept s) n false ≡ keeps s n) refl refl refl

-- an axis to which no fit datagram came
pub none_at : (group axis : ℕ) → group < 3 → axis < 3 → axis_at no_axes group axis ≡ no_axis
none_at = each_axis (λ n m. axis_at no_axes n m ≡ no_axis) (refl, refl, refl) (refl, refl, refl) (refl, refl, refl)

-- the total of an axis, as it comes back
pub total_at_lem : (a : Axes) (group axis : ℕ) → group < 3 → axis < 3 → total_at (totals_of a) group axis ≡ total_of (axis_at a group axis)
unfolding totals_of
total_at_lem a =
    each_axis (λ n m. total_at (totals_of a) n m ≡ total_of (axis_at a n m)) (refl, refl, refl) (refl, refl, refl) (refl, refl, refl)
