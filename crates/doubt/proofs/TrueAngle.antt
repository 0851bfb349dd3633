-- The total of a gyro axis that isn't marked stands for the true change since the axis's first fit datagram (02, 2.5): in sums of at most 16 samples
-- neighbouring true angles are close, and the law of one axis applies (01, Totals). Assumes nothing.
use Prim.Native.Nat.{ℕ, zero, suc, ◌+◌, ◌-◌, ◌*◌, ◌%◌, ◌^◌, ◌≤◌, ◌<◌, min}
use mathlib.Core.Bool.{Bool, true, false, cond}
use mathlib.Core.List.{List, [], ◌∷◌, map}
use mathlib.Core.Path.{◌≡◌, refl, sym, ap, ◌∙◌, subst}
use native.Mathlib.Nat.{mul-le-mul_right, add-mul, suc-mul}
use native.Mathlib.Omega.{arith}
use lib.IntN.{ℤ, pos, nat_abs, ◌-ℤ◌}
use lib.ListN
use lib.ListN.{length, take, get_or, length-take, length-map}
use lib.Seq.{get_or-take, take-take}
use Rattle.integers.proofs.Buffers.{take_map, get_or_map}
use Rattle.integers.proofs.Parts.{sub_self}
use Rattle.integers.proofs.Sizes.{abs_through}
use Rattle.gaps.specs.Gaps.{samples, elapsed}
use Rattle.gaps.proofs.Gaps.{elapsed_by}
use Rattle.motion.specs.Totals as totals
use Rattle.motion.specs.Totals.{Sighting, no_axis, after, fit_readings, fit_before, reading_of, CloseFrom, Close, Stands}
use Rattle.motion.specs.declared.Axis.{Axis}
use Rattle.motion.proofs.TrueChange.{total_at_each}
use Rattle.doubt.specs.declared.AxisDoubt.{AxisDoubt}
use Rattle.doubt.specs.Doubt.{greatest_sum, marks, no_doubt}
use Rattle.doubt.specs.Slipped.{Counted, none, greatest_turn, Turn, TrueAngles, SampledTurn, SampledAngles, FirstFit}
use Rattle.doubt.proofs.DoubtLaws.{near_unmarked}
use Rattle.doubt.proofs.Sums.{doubt_after, with_sum, after_fit, after_first, after_unfit, after_idle, stays_marked}

-- ---- sums of at most 16 samples are close

-- the true angles of the fit ones
unfoldable fit_angles : List Counted → List ℤ → List ℤ
fit_angles [] ts = []
fit_angles (d ∷ ds) [] = []
fit_angles (d ∷ ds) (t ∷ ts) = cond d.sighting.fit (t ∷ fit_angles ds ts) (fit_angles ds ts)

-- from the counter p and the true angle w to the first of the datagrams, and on
unfoldable TurnsFrom : ℕ → ℕ → ℤ → List Counted → List ℤ → Type 0
TurnsFrom fine p w [] ts = Unit {0}
TurnsFrom fine p w (d ∷ ds) [] = ⊥
TurnsFrom fine p w (d ∷ ds) (t ∷ ts) = Turn fine p d.counter w t × TurnsFrom fine d.counter t ds ts

-- a change over n samples and one over k more
further : (fine n k : ℕ) (t w u : ℤ) → 100 * nat_abs (w -ℤ t) ≤ n * (greatest_turn * fine) → 100 * nat_abs (u -ℤ w) ≤ k * (greatest_turn * fine)
    → 100 * nat_abs (u -ℤ t) ≤ (n + k) * (greatest_turn * fine)
further fine n k t w u h g = omega (arith, abs_through t w u, add-mul n k (greatest_turn * fine))

-- in at most 16 samples
close_in : (fine n : ℕ) (t u : ℤ) → 0 < fine → n ≤ 16 → 100 * nat_abs (u -ℤ t) ≤ n * (greatest_turn * fine) → nat_abs (u -ℤ t) < (2 ^ 23 - 1) * fine
close_in fine n t u h k g = omega (arith, mul-le-mul_right (50331648 * fine) k)

module _ (rate fine : ℕ) (h : 0 < fine) where
  marked_after : ℕ → ℕ → Bool → List Counted → Bool
  marked_after n p m ds = (doubt_after rate true false p (with_sum n m) ds).marked

  -- a total that isn't marked after a fit datagram had at most 16 samples there
  few_there : (d : Counted) (ds : List Counted) (n p : ℕ) → d.sighting.fit ≡ true → marked_after n p false (d ∷ ds) ≡ false
      → (n + (elapsed p d.counter).0 ≤ 16) × (marked_after 0 d.counter false ds ≡ false)
  unfolding marked_after
  few_there d ds n p f e =
      by (n + (elapsed p d.counter).0) (marks rate (samples (min (n + (elapsed p d.counter).0) greatest_sum))) refl
      (ap (λ (a : AxisDoubt). a.marked) (sym (after_fit rate d ds p n false f)) ∙ e)
    where
      by : (k : ℕ) (b : Bool) → marks rate (samples (min k greatest_sum)) ≡ b
          → (doubt_after rate true false d.counter (with_sum 0 (marks rate (samples (min k greatest_sum)))) ds).marked ≡ false
          → (k ≤ 16) × ((doubt_after rate true false d.counter (with_sum 0 false) ds).marked ≡ false)
      by k true q x =
          let s = stays_marked rate true false d.counter (with_sum 0 (marks rate (samples (min k greatest_sum)))) ds q in
          absurd (let z : ◌≡◌ {A = ℕ} 0 1 = cc in omega arith)
      by k false q x = (omega (arith, near_unmarked rate (samples (min k greatest_sum)) q), rw q at x)

  close_from :
      (ds : List Counted) (ts : List ℤ) (n p : ℕ) (t w : ℤ) → TurnsFrom fine p w ds ts → 100 * nat_abs (w -ℤ t) ≤ n * (greatest_turn * fine)
      → marked_after n p false ds ≡ false → CloseFrom fine t (fit_angles ds ts)
  unfolding TurnsFrom fit_angles CloseFrom marked_after
  close_from [] ts n p t w T g e = tt
  close_from (d ∷ ds) [] n p t w T g e = absurd T
  close_from (d ∷ ds) (u ∷ us) n p t w T g e = by d.sighting.fit refl (λ n' t' g' e'. close_from ds us n' d.counter t' u T.1 g' e')
    where
      turned : 100 * nat_abs (u -ℤ t) ≤ (n + (elapsed p d.counter).0) * (greatest_turn * fine)
      turned =
          let same = elapsed_by p d.counter T.0.samples (omega (arith, T.0.some)) (omega (arith, T.0.few)) T.0.counted in
          further fine n (elapsed p d.counter).0 t w u g
          (subst (λ (m : ℕ). 100 * nat_abs (u -ℤ w) ≤ m * (greatest_turn * fine)) (sym same) T.0.bounded)

      by : (b : Bool) → d.sighting.fit ≡ b
          → ((n' : ℕ) (t' : ℤ) → 100 * nat_abs (u -ℤ t') ≤ n' * (greatest_turn * fine) → marked_after n' d.counter false ds ≡ false → CloseFrom fine t' (fit_angles ds us))
          → CloseFrom fine t (cond d.sighting.fit (u ∷ fit_angles ds us) (fit_angles ds us))
      by true f r =
          let q = few_there d ds n p f e in
          rw f (close_in fine (n + (elapsed p d.counter).0) t u h q.0 turned, r 0 u (omega (arith, ap nat_abs (sub_self u))) q.1)
      by false f r =
          rw f (r (n + (elapsed p d.counter).0) t turned (ap (λ (a : AxisDoubt). a.marked) (sym (after_unfit rate d ds p n false f)) ∙ e))

  -- from an axis that hasn't begun, at the first of the datagrams, and on
  begins_by :
      (d : Counted) (ds : List Counted) (t : ℤ) (ts : List ℤ) (first : Bool) (p : ℕ) (b : Bool) → d.sighting.fit ≡ b → TurnsFrom fine d.counter t ds ts
      → (doubt_after rate false first p no_doubt (d ∷ ds)).marked ≡ false
      → ((doubt_after rate false false d.counter no_doubt ds).marked ≡ false → Close fine (fit_angles ds ts))
      → Close fine (cond d.sighting.fit (t ∷ fit_angles ds ts) (fit_angles ds ts))
  unfolding Close marked_after
  begins_by d ds t ts first p true f T e r =
      rw f
      (close_from ds ts 0 d.counter t t T (omega (arith, ap nat_abs (sub_self t)))
      (ap (λ (a : AxisDoubt). a.marked) (sym (after_first rate d ds first p f)) ∙ e))
  begins_by d ds t ts first p false f T e r = rw f (r (ap (λ (a : AxisDoubt). a.marked) (sym (after_idle rate d ds first p f)) ∙ e))

  close_begins :
      (d : Counted) (ds : List Counted) (t : ℤ) (ts : List ℤ) (first : Bool) (p : ℕ) → TurnsFrom fine d.counter t ds ts
      → (doubt_after rate false first p no_doubt (d ∷ ds)).marked ≡ false
      → Close fine (cond d.sighting.fit (t ∷ fit_angles ds ts) (fit_angles ds ts))
  unfolding Close TurnsFrom fit_angles
  close_begins d [] t ts first p T e = begins_by d [] t ts first p d.sighting.fit refl T e (λ x. tt)
  close_begins d (c ∷ ds) t [] first p T e = absurd T
  close_begins d (c ∷ ds) t (u ∷ us) first p T e =
      begins_by d (c ∷ ds) t (u ∷ us) first p d.sighting.fit refl T e (λ x. close_begins c ds u us false d.counter T.1 x)

-- ---- what the premises say

turns_of : (fine : ℕ) (d : Counted) (ds : List Counted) (t : ℤ) (ts : List ℤ) → TrueAngles fine (d ∷ ds) (t ∷ ts) → TurnsFrom fine d.counter t ds ts
unfolding TurnsFrom
turns_of fine d [] t ts A = tt
turns_of fine d (e ∷ ds) t [] A = absurd (omega (arith, A.one_each))
turns_of fine d (e ∷ ds) t (u ∷ us) A = (A.turns 0 (omega arith), turns_of fine e ds u us (angles_later A))
  where
    angles_later : TrueAngles fine (d ∷ e ∷ ds) (t ∷ u ∷ us) → TrueAngles fine (e ∷ ds) (u ∷ us)
    angles_later B =
        record {
          one_each = omega (arith, B.one_each);
          turns = λ i l. B.turns (suc i) (omega arith);
          carried = λ i l f. B.carried (suc i) (omega arith) f;
        }

-- the fit ones carry their angles
carried_fit : (fine : ℕ) (ds : List Counted) (ts : List ℤ) → length ts ≡ length ds
    → ((i : ℕ) → i < length ds → (get_or ds i none).sighting.fit ≡ true → (get_or ds i none).sighting.reading ≡ reading_of fine (get_or ts i (pos 0)))
    → fit_readings (map (λ (d : Counted). d.sighting) ds) ≡ map (reading_of fine) (fit_angles ds ts)
unfolding fit_readings fit_angles
carried_fit fine [] ts l c = refl
carried_fit fine (d ∷ ds) [] l c = absurd (omega arith)
carried_fit fine (d ∷ ds) (t ∷ ts) l c = by d.sighting.fit refl (carried_fit fine ds ts (omega arith) (λ i m f. c (suc i) (omega arith) f))
  where
    by : (b : Bool) → d.sighting.fit ≡ b
        → fit_readings (map (λ (d : Counted). d.sighting) ds) ≡ map (reading_of fine) (fit_angles ds ts)
        → cond d.sighting.fit (d.sighting.reading ∷ fit_readings (map (λ (d : Counted). d.sighting) ds)) (fit_readings (map (λ (d : Counted). d.sighting) ds))
        ≡ map (reading_of fine) (cond d.sighting.fit (t ∷ fit_angles ds ts) (fit_angles ds ts))
    by true f r = rw f (λ i. c 0 (omega arith) f i ∷ r i)
    by false f r = rw f r

-- the angle that the datagram at a place carries, and the first one
angle_at : (ds : List Counted) (ts : List ℤ) → length ts ≡ length ds → (i : ℕ) → i < length ds → (get_or ds i none).sighting.fit ≡ true
    → get_or (fit_angles ds ts) (fit_before (map (λ (d : Counted). d.sighting) ds) i) (pos 0) ≡ get_or ts i (pos 0)
unfolding fit_angles fit_before fit_readings
angle_at [] ts l i m f = absurd (omega arith)
angle_at (d ∷ ds) [] l i m f = absurd (omega arith)
angle_at (d ∷ ds) (t ∷ ts) l zero m f = rw f
angle_at (d ∷ ds) (t ∷ ts) l (suc i) m f = by d.sighting.fit refl (angle_at ds ts (omega arith) i (omega arith) f)
  where
    rs : List ℤ
    rs = fit_readings (take i (map (λ (d : Counted). d.sighting) ds))

    by : (b : Bool) → d.sighting.fit ≡ b → get_or (fit_angles ds ts) (length rs) (pos 0) ≡ get_or ts i (pos 0)
        → get_or (cond d.sighting.fit (t ∷ fit_angles ds ts) (fit_angles ds ts)) (length (cond d.sighting.fit (d.sighting.reading ∷ rs) rs)) (pos 0)
        ≡ get_or ts i (pos 0)
    by true g r = rw g r
    by false g r = rw g r

first_angle : (ds : List Counted) (ts : List ℤ) → length ts ≡ length ds → (i : ℕ) → i < length ds → (get_or ds i none).sighting.fit ≡ true
    → (k : ℕ) × (k ≤ i) × FirstFit ds k × (get_or (fit_angles ds ts) 0 (pos 0) ≡ get_or ts k (pos 0))
unfolding fit_angles
first_angle [] ts l i m f = absurd (omega arith)
first_angle (d ∷ ds) [] l i m f = absurd (omega arith)
first_angle (d ∷ ds) (t ∷ ts) l i m f = by d.sighting.fit refl i m f (λ j n g. first_angle ds ts (omega arith) j n g)
  where
    by : (b : Bool) → d.sighting.fit ≡ b → (i : ℕ) → i < suc (length ds) → (get_or (d ∷ ds) i none).sighting.fit ≡ true
        → ((j : ℕ) → j < length ds → (get_or ds j none).sighting.fit ≡ true
        → (k : ℕ) × (k ≤ j) × FirstFit ds k × (get_or (fit_angles ds ts) 0 (pos 0) ≡ get_or ts k (pos 0)))
        → (k : ℕ) × (k ≤ i) × FirstFit (d ∷ ds) k
        × (get_or (cond d.sighting.fit (t ∷ fit_angles ds ts) (fit_angles ds ts)) 0 (pos 0) ≡ get_or (t ∷ ts) k (pos 0))
    by true e i m f r = (0, omega arith, record { there = omega arith; fit = e; none_before = λ j n. absurd (omega arith) }, rw e)
    by false e zero m f r = absurd (let z : ◌≡◌ {A = ℕ} 0 1 = cc in omega arith)
    by false e (suc i) m f r =
        let q = r i (omega arith) f in (
          suc q.0,
          omega (arith, q.1),
          record { there = omega (arith, q.2.there); fit = q.2.fit; none_before = before e q.0 q.2.none_before },
          rw e q.3,
        )
      where
        before : d.sighting.fit ≡ false → (k : ℕ) → ((m : ℕ) → m < k → (get_or ds m none).sighting.fit ≡ false)
            → (m : ℕ) → m < suc k → (get_or (d ∷ ds) m none).sighting.fit ≡ false
        before e k g zero n = e
        before e k g (suc m) n = g m (omega arith)

-- the angles of the fit ones are close where the total isn't marked
close_all : (rate fine : ℕ) → 0 < fine → (first : Bool) (p : ℕ) (ds : List Counted) (ts : List ℤ) → TrueAngles fine ds ts
    → (doubt_after rate false first p no_doubt ds).marked ≡ false → Close fine (fit_angles ds ts)
unfolding fit_angles Close
close_all rate fine h first p [] ts A e = tt
close_all rate fine h first p (d ∷ ds) [] A e = tt
close_all rate fine h first p (d ∷ ds) (t ∷ ts) A e = close_begins rate fine h d ds t ts first p (turns_of fine d ds t ts A) e

-- what is so of all datagrams is so of those up to a place
pub up_to : (fine n : ℕ) (ds : List Counted) (ts : List ℤ) → TrueAngles fine ds ts → TrueAngles fine (take n ds) (take n ts)
up_to fine n ds ts A =
    record {
      one_each = omega (arith, length-take n ts, length-take n ds, A.one_each);
      turns =
          λ i l.
          let m : suc i < n = omega (arith, length-take n ds) in
          let k : i < n = omega arith in
          let T = A.turns i (omega (arith, length-take n ds)) in
          record {
            samples = T.samples;
            some = T.some;
            few = T.few;
            counted =
                ap (λ (d : Counted). (d.counter + T.samples) % 256) (get_or-take n ds i none k)
                ∙ T.counted
                ∙ ap (λ (d : Counted). d.counter) (sym (get_or-take n ds (suc i) none m));
            bounded =
                subst (λ (z : ℤ). 100 * nat_abs (z -ℤ get_or (take n ts) i (pos 0)) ≤ T.samples * (greatest_turn * fine)) (sym (get_or-take n ts (suc i) (pos 0) m))
                (subst (λ (z : ℤ). 100 * nat_abs (get_or ts (suc i) (pos 0) -ℤ z) ≤ T.samples * (greatest_turn * fine)) (sym (get_or-take n ts i (pos 0) k)) T.bounded);
          };
      carried =
          λ i l f.
          let k : i < n = omega (arith, length-take n ds) in
          let e = get_or-take n ds i none k in
          ap (λ (d : Counted). d.sighting.reading) e
          ∙ A.carried i (omega (arith, length-take n ds)) (ap (λ (d : Counted). d.sighting.fit) (sym e) ∙ f)
          ∙ ap (reading_of fine) (sym (get_or-take n ts i (pos 0) k));
    }

-- ---- one axis

abbrev sightings : List Counted → List Sighting
sightings ds = map (λ (d : Counted). d.sighting) ds

-- At a fit place at which the total isn't marked, the axis stands for the change from the true angle of its first fit datagram to that of this one; the
-- angles are those of the datagrams up to the place
pub unmarked_stands :
    (rate fine : ℕ) → 0 < fine → (ds : List Counted) (i : ℕ) → i < length ds → (ts : List ℤ) → TrueAngles fine (take (suc i) ds) ts → (first : Bool) (p : ℕ)
    → (get_or ds i none).sighting.fit ≡ true → (doubt_after rate false first p no_doubt (take (suc i) ds)).marked ≡ false
    → (k : ℕ) × (k ≤ i) × FirstFit ds k × Stands fine (get_or ts k (pos 0)) (get_or ts i (pos 0)) (after no_axis (take (suc i) (sightings ds)))
unmarked_stands rate fine h ds i l ts A first p f e =
    let n = suc i in
    let es = take n ds in
    let long = length-take n ds in
    let g = ap (λ (d : Counted). d.sighting.fit) (get_or-take n ds i none (omega arith)) ∙ f in
    let there : i < length es = omega arith in
    let q = first_angle es ts A.one_each i there g in
    let ss = sightings es in
    let same : ss ≡ take n (sightings ds) = sym (take_map (λ (d : Counted). d.sighting) ds n) in
    let seen : (get_or ss i totals.none).fit ≡ true =
    ap (λ (s : Sighting). s.fit) (ListN.get_or-map (λ (d : Counted). d.sighting) es i none) ∙ g in
    let s =
    total_at_each fine h no_axis refl ss (fit_angles es ts) (carried_fit fine es ts A.one_each A.carried) (close_all rate fine h first p es ts A e) i
    (omega (arith, length-map es (λ (d : Counted). d.sighting))) seen in (
      q.0,
      q.1,
      record {
        there = omega (arith, q.1);
        fit = ap (λ (d : Counted). d.sighting.fit) (sym (get_or-take n ds q.0 none (omega (arith, q.1)))) ∙ q.2.fit;
        none_before =
            λ m k. ap (λ (d : Counted). d.sighting.fit) (sym (get_or-take n ds m none (omega (arith, q.1)))) ∙ q.2.none_before m k;
      },
      subst (λ (a : Axis). Stands fine (get_or ts q.0 (pos 0)) (get_or ts i (pos 0)) a)
          (ap (after no_axis) (ap (take n) same ∙ take-take n n (sightings ds) (omega arith)))
          (subst (λ (z : ℤ). Stands fine z (get_or ts i (pos 0)) (after no_axis (take n ss))) q.3
          (subst (λ (z : ℤ). Stands fine (get_or (fit_angles es ts) 0 (pos 0)) z (after no_axis (take n ss))) (angle_at es ts A.one_each i there g) s)),
    )

-- ---- with a true angle at each internal sample

module _ (fine : ℕ) (angle : ℕ → ℤ) where
  over_samples :
      (n p q : ℕ) → q ≡ p + n → ((m : ℕ) → p ≤ m → m < q → 100 * nat_abs (angle (suc m) -ℤ angle m) ≤ greatest_turn * fine)
      → 100 * nat_abs (angle q -ℤ angle p) ≤ n * (greatest_turn * fine)
  over_samples zero p q e b =
      let same : q ≡ p = omega arith in
      omega (arith, ap (λ (k : ℕ). nat_abs (angle k -ℤ angle p)) same, ap nat_abs (sub_self (angle p)))
  over_samples (suc n) p zero e b = absurd (omega arith)
  over_samples (suc n) p (suc q) e b =
      let r = over_samples n p q (omega arith) (λ m h k. b m h (omega arith)) in
      omega (arith, abs_through (angle p) (angle q) (angle (suc q)), r, b q (omega arith) (omega arith), suc-mul n (greatest_turn * fine))

  turn_of : (previous counter p q : ℕ) → SampledTurn fine previous counter angle p q → Turn fine previous counter (angle p) (angle q)
  turn_of previous counter p q T =
      record {
        samples = q - p;
        some = omega (arith, T.some);
        few = omega (arith, T.few);
        counted = T.counted;
        bounded = over_samples (q - p) p q (omega (arith, T.some)) T.bounded;
      }

  pub sampled_angles : (ds : List Counted) (at : List ℕ) → SampledAngles fine ds angle at → TrueAngles fine ds (map angle at)
  sampled_angles ds at A =
      record {
        one_each = length-map at angle ∙ A.one_each;
        turns =
            λ i l.
            let T = turn_of (get_or ds i none).counter (get_or ds (suc i) none).counter (get_or at i 0) (get_or at (suc i) 0) (A.turns i l) in
            subst (Turn fine (get_or ds i none).counter (get_or ds (suc i) none).counter (get_or (map angle at) i (pos 0)))
            (sym (angle_of (suc i) (omega (arith, A.one_each))))
            (subst (λ (z : ℤ). Turn fine (get_or ds i none).counter (get_or ds (suc i) none).counter z (angle (get_or at (suc i) 0)))
            (sym (angle_of i (omega (arith, A.one_each)))) T);
        carried = λ i l f. A.carried i l f ∙ ap (reading_of fine) (sym (angle_of i (omega (arith, A.one_each))));
      }
    where
      angle_of : (i : ℕ) → i < length at → get_or (map angle at) i (pos 0) ≡ angle (get_or at i 0)
      angle_of i l = get_or_map angle at i 0 (pos 0) l
