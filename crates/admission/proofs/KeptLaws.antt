-- All that a sound session keeps of the datagrams: its axes, the sums and marks beside the gyro's, and that a datagram's step leaves them so (01, What is
-- turned down, 10; 02, 2.5). Assumes nothing.
use mathlib.Core.Path.{◌≡◌, refl, sym, ap, ◌∙◌, subst}
use mathlib.Core.Bool.{Bool, true, false, not, ◌&&◌, ◌||◌}
use mathlib.Core.List.{List, []}
use Prim.Native.Nat.{ℕ, ◌+◌, ◌<◌}
use native.Mathlib.Numerals.{add-one}
use native.Mathlib.Omega.{arith}
use lib.IntN.{ℤ, pos}
use lib.ListN.{get_or}
use borrow.Author.Tests.{not-true, eqb-true, ne_eqb, leb-true, le-leb}
use lib.Dec.{eqb, leb}
use Rattle.integers.proofs.Folding.{InRange}
use Rattle.integers.proofs.Booleans.{and_split, and_true}
use Rattle.setup.proofs.Refusals.{each}
use Rattle.motion.specs.declared.Axis.{Axis}
use Rattle.motion.specs.Totals.{GroupAxes}
use Rattle.motion.specs.Totals.{Sighting, no_group, kept_step, seen, stepped, axis_in, axis_at}
use Rattle.motion.proofs.NineAxes.{step_at_lem}
use Rattle.motion.proofs.Bounds.{not_begun}
use Rattle.gaps.specs.Gaps.{samples}
use Rattle.gaps.specs.declared.Samples.{Samples}
use Rattle.doubt.specs.Doubt.{added, no_doubt, no_gyro_doubt, doubt_step, kept_doubt, doubt_at}
use Rattle.doubt.specs.declared.AxisDoubt.{AxisDoubt}
use Rattle.doubt.specs.Doubt.{GyroDoubt}
use Rattle.doubt.proofs.DoubtLaws.{idle_step, step_most, gyro_step_at, no_doubt_at, kept_doubt_lem, unkept_doubt}
use Rattle.history.specs.History.{no_history, awaits_first, history_next}
use Rattle.history.specs.declared.History.{History}
use Rattle.admission.specs.Admission.{axes_right}
use Rattle.admission.specs.Admission.{is_fresh_doubt, doubt_right, gyro_doubt_right, kept_right_by}
use Rattle.admission.specs.SoundSession.{DoubtPasses}
use Rattle.admission.proofs.AxisLaws.{EachRight, axes_at_lem, each_axes, none_right, axes_step}

-- ---- one gyro axis

unmarked_none : (q : AxisDoubt) → is_fresh_doubt q ≡ true → q ≡ no_doubt
unmarked_none q e =
    let p = and_split (eqb q.samples.0 0) (not q.marked) e in
    let n : q.samples.0 ≡ 0 = eqb-true q.samples.0 0 p.0 in
    let m : q.marked ≡ false = not-true q.marked p.1 in
    let same : ◌≡◌ {A = AxisDoubt} (record { samples = samples q.samples.0; marked = q.marked }) no_doubt = rw (n, m) in
    same

doubt_passes : (going : Bool) (q : AxisDoubt) → doubt_right going q ≡ true → DoubtPasses going q
unfolding doubt_right
doubt_passes going q e =
    let p = and_split (leb q.samples.0 65535) (going || is_fresh_doubt q) e in
    record { sum = leb-true q.samples.0 65535 p.0; idle = λ f. unmarked_none q (rw f at p.1) }

passes_doubt : (going : Bool) (q : AxisDoubt) → DoubtPasses going q → doubt_right going q ≡ true
unfolding doubt_right
passes_doubt true q h = and_true (le-leb q.samples.0 65535 h.sum) refl
passes_doubt false q h = and_true (le-leb q.samples.0 65535 h.sum) (ap is_fresh_doubt (h.idle refl))

-- of the gyro's axes
module _ (kept : Bool) (g : GroupAxes) (q : GyroDoubt) where
  abbrev EachDoubt : Type 0
  EachDoubt = (axis : ℕ) → axis < 3 → DoubtPasses (kept && (axis_in g axis).begun) (doubt_at q axis)

  doubt_at_lem : gyro_doubt_right kept g q ≡ true → EachDoubt
  unfolding gyro_doubt_right
  doubt_at_lem e =
      let p = and_split (doubt_right (kept && g.x.begun) q.x) _ e in
      let r = and_split (doubt_right (kept && g.y.begun) q.y) _ p.1 in
      each (λ axis. DoubtPasses (kept && (axis_in g axis).begun) (doubt_at q axis)) (doubt_passes (kept && g.x.begun) q.x p.0)
      (doubt_passes (kept && g.y.begun) q.y r.0) (doubt_passes (kept && g.z.begun) q.z r.1)

  each_doubt : EachDoubt → gyro_doubt_right kept g q ≡ true
  unfolding gyro_doubt_right
  each_doubt h =
      and_true (passes_doubt (kept && g.x.begun) q.x (h 0 (omega arith)))
      (and_true (passes_doubt (kept && g.y.begun) q.y (h 1 (omega arith))) (passes_doubt (kept && g.z.begun) q.z (h 2 (omega arith))))

none_doubt : (kept : Bool) (g : GroupAxes) → gyro_doubt_right kept g no_gyro_doubt ≡ true
none_doubt kept g =
    each_doubt kept g no_gyro_doubt
    (λ axis k. subst (DoubtPasses (kept && (axis_in g axis).begun)) (sym (no_doubt_at axis k)) (record { sum = omega arith; idle = λ e. refl }))

-- a datagram's step
doubt_step_lem : (rate : ℕ) (kept : Bool) (a : Axis) (s : Sighting) (q : AxisDoubt) (d : Samples) → DoubtPasses (kept && a.begun) q
    → DoubtPasses (kept && (kept_step kept a s).begun) (kept_doubt rate kept a.begun s.fit q d)
doubt_step_lem rate false a s q d h = subst (DoubtPasses false) (sym (unkept_doubt rate false a.begun s.fit q d refl)) h
doubt_step_lem rate true a s q d h =
    subst (DoubtPasses (kept_step true a s).begun) (sym (kept_doubt_lem rate true a.begun s.fit q d refl))
    (record {
      sum = step_most rate a.begun s.fit q d h.sum;
      idle =
          λ e.
          let b : a.begun ≡ false = ap (λ (x : Axis). x.begun) (sym (not_begun true a s e)) ∙ e in
          (λ i. doubt_step rate (b i) s.fit (h.idle b i) d) ∙ idle_step rate s.fit d;
    })

-- ---- all that is kept of the datagrams

module _ (kept : List Bool) (h : History) where
  pub kept_axes : kept_right_by kept h ≡ true → EachRight kept (awaits_first h) h.datagrams.0 h.axes
  unfolding kept_right_by
  kept_axes e =
      axes_at_lem kept (awaits_first h) h.datagrams.0 h.axes
      (and_split (axes_right kept (awaits_first h) h.datagrams.0 h.axes) _ e).0

  pub kept_doubts : kept_right_by kept h ≡ true → EachDoubt (get_or kept 0 false) h.axes.gyro h.doubt
  unfolding kept_right_by
  kept_doubts e =
      doubt_at_lem (get_or kept 0 false) h.axes.gyro h.doubt
      (and_split (axes_right kept (awaits_first h) h.datagrams.0 h.axes) _ e).1

  pub each_kept :
      EachRight kept (awaits_first h) h.datagrams.0 h.axes → EachDoubt (get_or kept 0 false) h.axes.gyro h.doubt → kept_right_by kept h ≡ true
  unfolding kept_right_by
  each_kept a q =
      and_true (each_axes kept (awaits_first h) h.datagrams.0 h.axes a) (each_doubt (get_or kept 0 false) h.axes.gyro h.doubt q)

-- at the start, and behind a datagram whose readings have 24 bits
pub kept_none : (kept : List Bool) → kept_right_by kept no_history ≡ true
unfolding kept_right_by
kept_none kept = and_true (none_right kept true) (none_doubt (get_or kept 0 false) no_group)

pub kept_step_lem :
    (rate : ℕ) (kept : List Bool) (first : Bool) (h : History) (readings : List (List ℤ)) (statuses : List ℕ) (counter : ℕ)
    → ((g k : ℕ) → InRange (get_or (get_or readings g []) k (pos 0)))
    → kept_right_by kept h ≡ true
    → kept_right_by kept (history_next rate kept first h readings statuses counter) ≡ true
unfolding kept_right_by history_next
kept_step_lem rate kept first h readings statuses counter r e =
    let p = and_split (axes_right kept (awaits_first h) h.datagrams.0 h.axes) _ e in
    let n = h.datagrams.0 in
    let later : eqb (n + 1) 0 ≡ false = ne_eqb (n + 1) 0 (λ z. omega arith) in
    let axes = axes_step kept (awaits_first h) n h.axes readings statuses r p.0 in
    and_true
    (ap (λ (b : Bool). axes_right kept b (n + 1) (stepped kept h.axes readings statuses)) later
    ∙ ap (λ (k : ℕ). axes_right kept false k (stepped kept h.axes readings statuses)) (add-one n)
    ∙ axes)
    (each_doubt (get_or kept 0 false) (stepped kept h.axes readings statuses).gyro _
    (λ axis k.
    let a = axis_at h.axes 0 axis in
    let s = seen readings statuses 0 axis in
    let d = added first h.previous counter in
    let q = doubt_step_lem rate (get_or kept 0 false) a s (doubt_at h.doubt axis) d (doubt_at_lem (get_or kept 0 false) h.axes.gyro h.doubt p.1 axis k) in
    subst (DoubtPasses (get_or kept 0 false && (axis_at (stepped kept h.axes readings statuses) 0 axis).begun))
    (sym (gyro_step_at rate (get_or kept 0 false) h.axes.gyro h.doubt (get_or statuses 0 0) d axis k))
    (subst (λ (x : Axis). DoubtPasses (get_or kept 0 false && x.begun) (kept_doubt rate (get_or kept 0 false) a.begun s.fit (doubt_at h.doubt axis) d))
    (sym (step_at_lem kept h.axes readings statuses 0 axis (omega arith) k)) q)))
