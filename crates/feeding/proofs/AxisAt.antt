-- The total of an axis in the answer at a place: its own sightings up to that place alone decide it.
-- Assumes nothing.
use Prim.Native.Nat.{ℕ, suc, ◌*◌, ◌≤◌, ◌<◌, ◌^◌}
use mathlib.Core.Path.{◌≡◌, refl, sym, ap, ◌∙◌}
use mathlib.Core.Bool.{Bool, true, false, cond}
use mathlib.Core.List.{List, [], ◌∷◌}
use native.Mathlib.Decide.{dec_lt}
use native.Mathlib.Omega.{arith}
use lib.IntN.{nat_abs}
use lib.ListN.{length, take, get_or, length-map}
use lib.Seq.{length-take-le}
use Rattle.integers.proofs.Buffers.{take_map, get_or_map}
use Rattle.setup.specs.Setup.{ruling_on}
use Rattle.setup.specs.Sensor.{sensor_of}
use Rattle.setup.specs.declared.Setup.{Setup}
use Rattle.wire.specs.Fields.{fields_of}
use Rattle.motion.specs.Totals.{groups_kept, no_axis, Sighting, kept_step, keeps, axis_at, none, total_of, total_at, after}
use Rattle.motion.specs.declared.Axis.{Axis}
use Rattle.motion.proofs.Bounds.{kept_after, after_next, after_not_kept, after_within, after_bound}
use Rattle.motion.proofs.NineAxes.{step_at_lem, kept_at, none_at, total_at_lem}
use Rattle.doubles.specs.Doubles.{shift_in, total_double, double_at}
use Rattle.doubles.proofs.Doubles.{double_at_lem}
use Rattle.scan.specs.Carry.{steps, carried_after}
use Rattle.scan.proofs.CarryLaws.{told_at, told_beyond}
use Rattle.history.specs.History.{no_history, awaits_first, history_next}
use Rattle.history.specs.declared.History.{History}
use Rattle.feeding.specs.declared.Datagram.{Datagram}
use Rattle.feeding.specs.Feed.{datagram_with, history_after, tell, consumer, no_datagram}
use Rattle.feeding.specs.Promises.{answers_for, sighting, sightings}
use Rattle.feeding.proofs.BySetup.{after_datagram}
use Rattle.std.specs.Prelude.{Ok}

-- by 01's rule for one axis, up to 2 ^ 30 datagrams
pub after_ruled :
    (kept : Bool) (ss : List Sighting) → length ss ≤ 2 ^ 30 → kept_after kept no_axis ss ≡ cond kept (after no_axis ss) no_axis
after_ruled true ss h = after_within no_axis ss 0 (omega arith) (omega arith)
after_ruled false ss h = after_not_kept no_axis ss

-- ---- sightings by their place

module _ (u : Setup) (group axis : ℕ) where
  pub sighting_at :
      (ds : List (List ℕ)) (i : ℕ) → i < length ds
      → get_or (sightings u group axis ds) i none ≡ sighting u group axis (get_or ds i [])
  sighting_at ds i h = get_or_map (sighting u group axis) ds i [] none h

  pub sightings_length : (ds : List (List ℕ)) → length (sightings u group axis ds) ≡ length ds
  sightings_length ds = length-map ds (sighting u group axis)

  module _ (ok : ruling_on u ≡ Ok tt) (h : group < 3) (k : axis < 3) where
    -- the axis behind a datagram
    pub axis_next :
        (first : Bool) (x : History) (d : List ℕ)
        → axis_at (history_after (sensor_of u) first x d).axes group axis ≡ kept_step (keeps u group) (axis_at x.axes group axis) (sighting u group axis d)
    unfolding history_next
    axis_next first x d =
        let c = fields_of u.identifier d in
        ap (λ (y : History). axis_at y.axes group axis) (after_datagram u ok first x d)
        ∙ step_at_lem (groups_kept u) x.axes c.readings c.statuses group axis h k
        ∙ ap (λ (b : Bool). kept_step b (axis_at x.axes group axis) (sighting u group axis d)) (kept_at u group h)

    -- what is kept of the axis after datagrams
    axis_carried :
        (x : History) (ds : List (List ℕ))
        → axis_at (carried_after (consumer u) x ds).axes group axis
        ≡ kept_after (keeps u group) (axis_at x.axes group axis) (sightings u group axis ds)
    unfolding carried_after kept_after
    axis_carried x [] = refl
    axis_carried x (d ∷ ds) =
        axis_carried (steps (consumer u) x d) ds
        ∙ ap (λ (a : Axis). kept_after (keeps u group) a (sightings u group axis ds)) (axis_next (awaits_first x) x d)

    -- the axis in the answer at a place
    abbrev pub axis_then : List (List ℕ) → ℕ → Axis
    axis_then ds i = kept_after (keeps u group) no_axis (take (suc i) (sightings u group axis ds))

    module _ (ds : List (List ℕ)) (i : ℕ) (l : i < length ds) where
      before : History
      before = carried_after (consumer u) no_history (take i ds)

      axis_then_lem : axis_at (history_after (sensor_of u) (awaits_first before) before (get_or ds i [])).axes group axis ≡ axis_then ds i
      unfolding before
      axis_then_lem =
          let d = get_or ds i [] in
          let s = sightings u group axis ds in
          axis_next (awaits_first before) before d
          ∙ ap (λ (a : Axis). kept_step (keeps u group) a (sighting u group axis d))
          (axis_carried no_history (take i ds)
          ∙ ap (λ (a : Axis). kept_after (keeps u group) a (sightings u group axis (take i ds))) (none_at group axis h k)
          ∙ ap (kept_after (keeps u group) no_axis) (sym (take_map (sighting u group axis) ds i)))
          ∙ ap (kept_step (keeps u group) (kept_after (keeps u group) no_axis (take i s))) (sym (sighting_at ds i l))
          ∙ sym (after_next (keeps u group) no_axis s i (omega (arith, sightings_length ds)))

      pub total_then : total_at (get_or (answers_for u ds) i no_datagram).totals group axis ≡ total_of (axis_then ds i)
      unfolding tell datagram_with before
      total_then =
          ap (λ (o : Datagram). total_at o.totals group axis) (told_at (consumer u) no_history ds i no_datagram l)
          ∙ total_at_lem (history_after (sensor_of u) (awaits_first before) before (get_or ds i [])).axes group axis h k
          ∙ ap total_of axis_then_lem

      pub double_then : double_at (get_or (answers_for u ds) i no_datagram).doubles group axis ≡ total_double (axis_then ds i) (shift_in (sensor_of u).shifts group)
      unfolding tell datagram_with before
      double_then =
          ap (λ (o : Datagram). double_at o.doubles group axis) (told_at (consumer u) no_history ds i no_datagram l)
          ∙ double_at_lem (sensor_of u).shifts (history_after (sensor_of u) (awaits_first before) before (get_or ds i [])).axes group axis h k
          ∙ ap (λ (a : Axis). total_double a (shift_in (sensor_of u).shifts group)) axis_then_lem

      -- a total grows by at most 2 ^ 23 with a datagram
      pub then_bound : nat_abs (axis_then ds i).total ≤ suc i * 8388608
      then_bound =
          let s = sightings u group axis ds in
          omega (
            arith,
            after_bound (keeps u group) no_axis (take (suc i) s) 0 (omega arith),
            length-take-le (suc i) s (omega (arith, sightings_length ds)),
          )

    -- lists that look alike to the axis give the same
    pub independent :
        (ds es : List (List ℕ)) → sightings u group axis ds ≡ sightings u group axis es → (i : ℕ)
        → (total_at (get_or (answers_for u ds) i no_datagram).totals group axis ≡ total_at (get_or (answers_for u es) i no_datagram).totals group axis)
        × (double_at (get_or (answers_for u ds) i no_datagram).doubles group axis ≡ double_at (get_or (answers_for u es) i no_datagram).doubles group axis)
    independent ds es e i = go (dec_lt i (length ds))
      where
        long : length ds ≡ length es
        long = sym (sightings_length ds) ∙ ap length e ∙ sightings_length es

        same : axis_then ds i ≡ axis_then es i
        same = ap (λ (s : List Sighting). kept_after (keeps u group) no_axis (take (suc i) s)) e

        go :
            Dec (i < length ds)
            → (total_at (get_or (answers_for u ds) i no_datagram).totals group axis ≡ total_at (get_or (answers_for u es) i no_datagram).totals group axis)
            × (double_at (get_or (answers_for u ds) i no_datagram).doubles group axis ≡ double_at (get_or (answers_for u es) i no_datagram).doubles group axis)
        go (yes l) = (
          total_then ds i l ∙ ap total_of same ∙ sym (total_then es i (omega (arith, long))),
          double_then ds i l ∙ ap (λ (a : Axis). total_double a (shift_in (sensor_of u).shifts group)) same ∙ sym (double_then es i (omega (arith, long))),
        )
        go (no n) =
            let p = told_beyond (consumer u) no_history ds i no_datagram (omega arith) in
            let q = told_beyond (consumer u) no_history es i no_datagram (omega (arith, long)) in (
              ap (λ (o : Datagram). total_at o.totals group axis) (p ∙ sym q),
              ap (λ (o : Datagram). double_at o.doubles group axis) (p ∙ sym q),
            )
