-- The sum and the mark of a gyro axis after datagrams, and in the answer at a place: what the axis sees of the datagrams up to there, and their counters,
-- alone decide them (02, 2.5). Assumes nothing.
use Prim.Native.Nat.{ℕ, suc, ◌+◌, ◌*◌, ◌^◌, ◌≤◌, ◌<◌}
use mathlib.Core.Path.{◌≡◌, refl, sym, ap, ◌∙◌}
use mathlib.Core.Bool.{Bool, true, false, ◌||◌}
use mathlib.Core.List.{List, [], ◌∷◌, map}
use native.Mathlib.Omega.{arith}
use borrow.Author.Tests.{ne_eqb}
use lib.IntN.{nat_abs}
use lib.ListN.{length, take, get_or}
use lib.Seq.{length-take-le}
use Rattle.integers.proofs.Buffers.{take_map}
use Rattle.setup.specs.Setup.{ruling_on}
use Rattle.setup.specs.Sensor.{sensor_of}
use Rattle.setup.specs.declared.Setup.{Setup}
use Rattle.wire.specs.Fields.{fields_of}
use Rattle.motion.specs.Totals.{Sighting, groups_kept, keeps, kept_step, axis_at}
use Rattle.motion.specs.declared.Axis.{Axis}
use Rattle.motion.proofs.Bounds.{step_bound, total_small, begun_next}
use Rattle.motion.proofs.NineAxes.{kept_at, none_at}
use Rattle.doubt.specs.Doubt.{added, no_doubt, doubt_step, kept_doubt, doubt_at, mark_at}
use Rattle.doubt.specs.Slipped.{Counted}
use Rattle.doubt.specs.declared.AxisDoubt.{AxisDoubt}
use Rattle.doubt.proofs.DoubtLaws.{gyro_step_at, kept_doubt_lem, unkept_doubt, no_doubt_at}
use Rattle.doubt.proofs.Sums.{doubt_after}
use Rattle.scan.specs.Carry.{steps, carried_after}
use Rattle.scan.proofs.CarryLaws.{told_at, carried_next}
use Rattle.history.specs.History.{no_history, awaits_first, history_next}
use Rattle.history.specs.declared.History.{History}
use Rattle.feeding.specs.declared.Datagram.{Datagram}
use Rattle.feeding.specs.Feed.{history_after, consumer, no_datagram}
use Rattle.feeding.specs.Promises.{answers_for, sighting, sightings, counted_sighting, counted}
use Rattle.feeding.proofs.BySetup.{after_datagram}
use Rattle.feeding.proofs.AxisAt.{axis_next}
use Rattle.feeding.proofs.DatagramLaws.{mark_told}
use Rattle.std.specs.Prelude.{Ok}

-- the sightings of them are the axis's
pub counted_sightings : (u : Setup) (axis : ℕ) (ds : List (List ℕ)) → map (λ (c : Counted). c.sighting) (counted u axis ds) ≡ sightings u 0 axis ds
counted_sightings u axis [] = refl
counted_sightings u axis (d ∷ ds) = ap (λ (l : List Sighting). sighting u 0 axis d ∷ l) (counted_sightings u axis ds)

module _ (u : Setup) (axis : ℕ) (ok : ruling_on u ≡ Ok tt) (k : axis < 3) where
  -- what is kept of the axis beside its total, behind a datagram
  pub doubt_next :
      (first : Bool) (x : History) (d : List ℕ)
      → doubt_at (history_after (sensor_of u) first x d).doubt axis
      ≡ kept_doubt u.rate (keeps u 0) (axis_at x.axes 0 axis).begun (sighting u 0 axis d).fit (doubt_at x.doubt axis)
      (added first x.previous (fields_of u.identifier d).counter)
  unfolding history_next
  doubt_next first x d =
      let c = fields_of u.identifier d in
      let a = added first x.previous c.counter in
      ap (λ (y : History). doubt_at y.doubt axis) (after_datagram u ok first x d)
      ∙ gyro_step_at u.rate (get_or (groups_kept u) 0 false) x.axes.gyro x.doubt (get_or c.statuses 0 0) a axis k
      ∙ ap (λ (b : Bool). kept_doubt u.rate b (axis_at x.axes 0 axis).begun (sighting u 0 axis d).fit (doubt_at x.doubt axis) a) (kept_at u 0 (omega arith))

  -- where the gyro keeps no totals, it stays as it is
  carried_unkept : keeps u 0 ≡ false → (x : History) (ds : List (List ℕ)) → doubt_at (carried_after (consumer u) x ds).doubt axis ≡ doubt_at x.doubt axis
  unfolding carried_after
  carried_unkept e x [] = refl
  carried_unkept e x (d ∷ ds) =
      carried_unkept e (steps (consumer u) x d) ds
      ∙ doubt_next (awaits_first x) x d
      ∙ unkept_doubt u.rate (keeps u 0) _ _ _ _ e

  module _ (e : keeps u 0 ≡ true) (x : History) (d : List ℕ) where
    abbrev here : Axis
    here = axis_at x.axes 0 axis

    abbrev then : History
    then = steps (consumer u) x d

    axis_then_lem : axis_at then.axes 0 axis ≡ kept_step true here (sighting u 0 axis d)
    axis_then_lem = axis_next u 0 axis ok (omega arith) k (awaits_first x) x d ∙ ap (λ (b : Bool). kept_step b here (sighting u 0 axis d)) e

    bound_then : (n : ℕ) → nat_abs here.total ≤ n * 8388608 → nat_abs (axis_at then.axes 0 axis).total ≤ suc n * 8388608
    bound_then n b = omega (arith, ap (λ (a : Axis). nat_abs a.total) axis_then_lem, step_bound true here (sighting u 0 axis d) n b)

    begun_then : nat_abs here.total ≤ 2 ^ 53 → (axis_at then.axes 0 axis).begun ≡ (here.begun || (sighting u 0 axis d).fit)
    begun_then b = ap (λ (a : Axis). a.begun) axis_then_lem ∙ begun_next here (sighting u 0 axis d) b

    later_then : awaits_first then ≡ false
    unfolding history_after history_next
    later_then = ne_eqb (x.datagrams.0 + 1) 0 (λ z. omega arith)

    counter_then : then.previous ≡ (fields_of u.identifier d).counter
    unfolding history_next
    counter_then = ap (λ (h : History). h.previous) (after_datagram u ok (awaits_first x) x d)

    doubt_then :
        doubt_at then.doubt axis
        ≡ doubt_step u.rate here.begun (sighting u 0 axis d).fit (doubt_at x.doubt axis)
        (added (awaits_first x) x.previous (fields_of u.identifier d).counter)
    doubt_then =
        let a = added (awaits_first x) x.previous (fields_of u.identifier d).counter in
        doubt_next (awaits_first x) x d
        ∙ kept_doubt_lem u.rate (keeps u 0) here.begun (sighting u 0 axis d).fit (doubt_at x.doubt axis) a e

  -- where it keeps them, it is as its datagrams leave it, up to 2 ^ 30 of them
  carried_doubt :
      keeps u 0 ≡ true → (x : History) (ds : List (List ℕ)) (n : ℕ) → nat_abs (axis_at x.axes 0 axis).total ≤ n * 8388608 → n + length ds ≤ 2 ^ 30
      → doubt_at (carried_after (consumer u) x ds).doubt axis
      ≡ doubt_after u.rate (axis_at x.axes 0 axis).begun (awaits_first x) x.previous (doubt_at x.doubt axis) (counted u axis ds)
  unfolding carried_after doubt_after
  carried_doubt e x [] n b m = refl
  carried_doubt e x (d ∷ ds) n b m =
      carried_doubt e (steps (consumer u) x d) ds (suc n) (bound_then e x d n b) (omega arith)
      ∙ (λ i.
      doubt_after u.rate (begun_then e x d (total_small n (axis_at x.axes 0 axis).total (omega arith) b) i) (later_then e x d i) (counter_then e x d i)
      (doubt_then e x d i) (counted u axis ds))

  -- from a fresh session
  pub doubt_kept :
      (ds : List (List ℕ)) → keeps u 0 ≡ true → length ds ≤ 2 ^ 30
      → doubt_at (carried_after (consumer u) no_history ds).doubt axis ≡ doubt_after u.rate false true 0 no_doubt (counted u axis ds)
  doubt_kept ds e few =
      let none = none_at 0 axis (omega arith) k in
      carried_doubt e no_history ds 0 (omega (arith, ap (λ (a : Axis). nat_abs a.total) none)) (omega arith)
      ∙ (λ j. doubt_after u.rate (none j).begun true 0 (no_doubt_at axis k j) (counted u axis ds))

  -- ---- the mark in the answer at a place

  module _ (ds : List (List ℕ)) (i : ℕ) (l : i < length ds) where
    mark_then : mark_at (get_or (answers_for u ds) i no_datagram).doubtful axis ≡ (doubt_at (carried_after (consumer u) no_history (take (suc i) ds)).doubt axis).marked
    mark_then =
        ap (λ (o : Datagram). mark_at o.doubtful axis) (told_at (consumer u) no_history ds i no_datagram l)
        ∙ mark_told u ok (carried_after (consumer u) no_history (take i ds)) (get_or ds i []) axis k
        ∙ ap (λ (h : History). (doubt_at h.doubt axis).marked) (sym (carried_next (consumer u) no_history ds i l))

    pub mark_unkept : keeps u 0 ≡ false → mark_at (get_or (answers_for u ds) i no_datagram).doubtful axis ≡ false
    mark_unkept e =
        mark_then
        ∙ ap (λ (q : AxisDoubt). q.marked) (carried_unkept e no_history (take (suc i) ds))
        ∙ ap (λ (q : AxisDoubt). q.marked) (no_doubt_at axis k)

    pub mark_kept :
        keeps u 0 ≡ true → length ds ≤ 2 ^ 30
        → mark_at (get_or (answers_for u ds) i no_datagram).doubtful axis ≡ (doubt_after u.rate false true 0 no_doubt (take (suc i) (counted u axis ds))).marked
    mark_kept e few =
        mark_then
        ∙ ap (λ (q : AxisDoubt). q.marked)
        (doubt_kept (take (suc i) ds) e (omega (arith, length-take-le (suc i) ds (omega arith)))
        ∙ ap (doubt_after u.rate false true 0 no_doubt) (sym (take_map (counted_sighting u axis) ds (suc i))))
