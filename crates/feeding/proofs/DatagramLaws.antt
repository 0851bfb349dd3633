-- What comes back with a datagram, of what a session keeps: its own fields, judgements, what was missed, the totals of the axes, exact doubles.
-- Assumes nothing.
use Prim.Native.Nat.{ℕ, ◌^◌, ◌≤◌, ◌<◌}
use mathlib.Core.Path.{◌≡◌, refl, sym, ap, ◌∙◌, subst}
use mathlib.Core.Bool.{true, false}
use mathlib.Core.List.{List}
use native.Mathlib.Omega.{arith}
use lib.Ieee.{Float, nan}
use lib.Ieee.Exact.{HasValue}
use lib.IntN.{ℤ, nat_abs}
use lib.ListN.{get_or}
use Rattle.integers.proofs.Folding.{abs_of_range}
use Rattle.setup.specs.Setup.{ruling_on}
use Rattle.setup.specs.Sensor.{sensor_of}
use Rattle.setup.specs.declared.Setup.{Setup}
use Rattle.setup.proofs.Refusals.{each}
use Rattle.wire.specs.Fields.{fields_of}
use Rattle.wire.proofs.FieldRanges.{fields_fit}
use Rattle.gaps.specs.Gaps.{missed_at}
use Rattle.gaps.proofs.Gaps.{missed_with}
use Rattle.motion.specs.Totals.{no_axis, axis_at, total_of, totals_of, total_at}
use Rattle.motion.specs.declared.Axis.{Axis}
use Rattle.motion.specs.declared.Total.{Total}
use Rattle.motion.proofs.NineAxes.{each_axis, total_at_lem}
use Rattle.motion.proofs.Judged.{judged_by}
use Rattle.doubles.specs.Doubles.{negative, plus_zero, unit_number_in, doubles_in, shift_in, group_values, values_for, total_double, double_at}
use Rattle.doubles.specs.declared.Values.{Values}
use Rattle.doubles.proofs.Doubles.{double_at_lem}
use Rattle.doubles.proofs.AcceptedSetup.{accepted_unit, accepted_value, accepted_total}
use Rattle.doubt.specs.Doubt.{doubt_at, mark_at}
use Rattle.doubt.proofs.DoubtLaws.{mark_at_lem}
use Rattle.scan.specs.Carry.{steps, tells}
use Rattle.search.specs.Search.{is_datagram}
use Rattle.search.proofs.Datagrams.{datagram_parts}
use Rattle.history.specs.History.{awaits_first}
use Rattle.history.specs.declared.History.{History}
use Rattle.feeding.specs.declared.Datagram.{Datagram}
use Rattle.feeding.specs.Feed.{datagram_with, tell, consumer, no_datagram}
use Rattle.feeding.specs.Promises.{sighting, shift_of, TotalExact, Contained, Exact, Zeros}
use Rattle.feeding.proofs.BySetup.{told_datagram}
use Rattle.std.specs.Prelude.{Ok}

module _ (u : Setup) (ok : ruling_on u ≡ Ok tt) (h : History) (d : List ℕ) where
  -- the answer, and the axes then
  abbrev answer : Datagram
  answer = tells (consumer u) h d

  abbrev axis_behind : ℕ → ℕ → Axis
  axis_behind group axis = axis_at (steps (consumer u) h d).axes group axis

  pub contained_told : Contained u (awaits_first h) h.previous d (tells (consumer u) h d)
  contained_told =
      subst (Contained u (awaits_first h) h.previous d) (sym (told_datagram u ok (awaits_first h) h d))
      (record {
        readings = unfold datagram_with fields_of in refl;
        fields = unfold datagram_with in refl;
        flags = unfold datagram_with in refl;
        judgements = unfold datagram_with in judged_by (fields_of u.identifier d).statuses;
        gap = unfold datagram_with in missed_with (missed_at u.rate (awaits_first h) h.previous (fields_of u.identifier d).counter);
      })

  module _ (group axis : ℕ) (g : group < 3) (k : axis < 3) where
    pub total_told : total_at answer.totals group axis ≡ total_of (axis_behind group axis)
    unfolding tell datagram_with
    total_told = total_at_lem (steps (consumer u) h d).axes group axis g k

    double_told : double_at answer.doubles group axis ≡ total_double (axis_behind group axis) (shift_in (sensor_of u).shifts group)
    unfolding tell datagram_with
    double_told = double_at_lem (sensor_of u).shifts (steps (consumer u) h d).axes group axis g k

    values_told : values_for answer.values group ≡ values_for (group_values (sensor_of u).units (sensor_of u).shifts (fields_of u.identifier d).readings) group
    unfolding datagram_with
    values_told = ap (λ (o : Datagram). values_for o.values group) (told_datagram u ok (awaits_first h) h d)

    double_exact : nat_abs (axis_behind group axis).total ≤ 2 ^ 53 → TotalExact u group axis answer
    double_exact small =
        let x = axis_behind group axis in
        subst (λ (f : Float). HasValue f (negative (total_at answer.totals group axis).steps) (nat_abs (total_at answer.totals group axis).steps) (2 ^ shift_of u group)) (sym double_told)
        (subst (λ (z : ℤ). HasValue (total_double x (shift_in (sensor_of u).shifts group)) (negative z) (nat_abs z) (2 ^ shift_of u group))
        (sym (ap (λ (y : Total). y.steps) total_told))
        (accepted_total u ok x group g small))

    reading_small : is_datagram u d ≡ true → nat_abs (sighting u group axis d).reading ≤ 2 ^ 31
    reading_small a =
        let b = (datagram_parts u d a).0 in
        omega (arith, abs_of_range (sighting u group axis d).reading ((fields_fit u.identifier d b).readings group axis))

    pub exact_told : is_datagram u d ≡ true → nat_abs (axis_behind group axis).total ≤ 2 ^ 53 → Exact u d (tells (consumer u) h d) group axis
    exact_told a small =
        record {
          unit = ap unit_number_in values_told ∙ accepted_unit u ok (fields_of u.identifier d).readings group g;
          value =
              subst (λ (v : Values). HasValue (get_or (doubles_in v) axis plus_zero) (negative (sighting u group axis d).reading) (nat_abs (sighting u group axis d).reading) (2 ^ shift_of u group)) (sym values_told)
              (accepted_value u ok (fields_of u.identifier d).readings group g axis k (reading_small a));
          double = double_exact small;
        }

  pub mark_told : (axis : ℕ) → axis < 3 → mark_at answer.doubtful axis ≡ (doubt_at (steps (consumer u) h d).doubt axis).marked
  unfolding tell datagram_with
  mark_told axis k = mark_at_lem (steps (consumer u) h d).doubt axis k

-- ---- where none is handed out

pub no_datagram_zeros : Zeros no_datagram
unfolding no_datagram totals_of
no_datagram_zeros =
    record {
      readings = refl;
      statuses = refl;
      temperatures = refl;
      temperature_statuses_lem = refl;
      aux = (refl, refl);
      counter = (refl, refl);
      flags = refl;
      judgements = refl;
      gap = refl;
      unit = each (λ group. unit_number_in (values_for no_datagram.values group) ≡ 0) refl refl refl;
      value =
          each_axis (λ group axis. get_or (doubles_in (values_for no_datagram.values group)) axis nan ≡ plus_zero) (refl, refl, refl) (refl, refl, refl)
          (refl, refl, refl);
      total = each_axis (λ group axis. total_at no_datagram.totals group axis ≡ total_of no_axis) (refl, refl, refl) (refl, refl, refl) (refl, refl, refl);
      double = each_axis (λ group axis. double_at no_datagram.doubles group axis ≡ plus_zero) (refl, refl, refl) (refl, refl, refl) (refl, refl, refl);
      unmarked = each (λ axis. mark_at no_datagram.doubtful axis ≡ false) refl refl refl;
    }
