-- What is kept of an axis after datagrams, from any axis: whether its total is marked is read off the datagrams (02, 2.5). Assumes nothing.
use Prim.Native.Nat.{ℕ, ◌+◌, min}
use mathlib.Core.Bool.{Bool, true, false, ◌&&◌, ◌||◌}
use mathlib.Core.List.{List, [], ◌∷◌, ◌++◌}
use mathlib.Core.Logic.{◌⊎◌, inl, inr}
use mathlib.Core.Path.{◌≡◌, refl, sym, ap, ◌∙◌}
use native.Mathlib.Omega.{arith}
use Rattle.integers.proofs.Booleans.{or_true}
use Rattle.gaps.specs.Gaps.{samples, elapsed}
use Rattle.gaps.specs.declared.Samples.{Samples}
use Rattle.doubt.specs.declared.AxisDoubt.{AxisDoubt}
use Rattle.doubt.specs.Doubt.{added, greatest_sum, sum_with, marks, no_doubt, fit_doubt, unfit_doubt, doubt_step}
use Rattle.doubt.specs.Slipped.{Counted, samples_over, AllUnfit, Doubtful, MaySlip}
use Rattle.doubt.proofs.DoubtLaws.{later_adds, stopped_once, stop_above, far_marks, trigger_marks, marked_why, mark_stays, idle_step}

-- what is kept of an axis after datagrams; begun: whether a fit one came before, first: whether the first of them counts as a first one, previous: the
-- counter of the one before
unfoldable pub doubt_after : ℕ → Bool → Bool → ℕ → AxisDoubt → List Counted → AxisDoubt
doubt_after rate begun first previous a [] = a
doubt_after rate begun first previous a (d ∷ ds) =
    doubt_after rate (begun || d.sighting.fit) false d.counter
    (doubt_step rate begun d.sighting.fit a (added first previous d.counter)) ds

-- an axis with so many samples since its last fit datagram
abbrev pub with_sum : ℕ → Bool → AxisDoubt
with_sum n marked = record { samples = samples (min n greatest_sum); marked = marked }

-- ---- one more datagram

module _ (rate : ℕ) (d : Counted) (ds : List Counted) where
  -- a fit one on an axis that has begun, and on one that hasn't
  pub after_fit : (p n : ℕ) (m : Bool) → d.sighting.fit ≡ true →
      let e = (elapsed p d.counter).0 in
      doubt_after rate true false p (with_sum n m) (d ∷ ds)
      ≡ doubt_after rate true false d.counter (with_sum 0 (m || marks rate (samples (min (n + e) greatest_sum)))) ds
  unfolding doubt_after doubt_step fit_doubt
  after_fit p n m f =
      rw (f, later_adds p d.counter)
      (ap (λ (s : Samples). doubt_after rate true false d.counter (with_sum 0 (m || marks rate s)) ds) (stopped_once n (elapsed p d.counter).0))

  pub after_first : (first : Bool) (p : ℕ) → d.sighting.fit ≡ true
      → doubt_after rate false first p no_doubt (d ∷ ds) ≡ doubt_after rate true false d.counter (with_sum 0 false) ds
  unfolding doubt_after
  after_first first p f = rw (f, idle_step rate true (added first p d.counter))

  -- an unfit one
  pub after_unfit : (p n : ℕ) (m : Bool) → d.sighting.fit ≡ false
      → doubt_after rate true false p (with_sum n m) (d ∷ ds) ≡ doubt_after rate true false d.counter (with_sum (n + (elapsed p d.counter).0) m) ds
  unfolding doubt_after doubt_step unfit_doubt
  after_unfit p n m f =
      rw (f, later_adds p d.counter)
      (ap (λ (s : Samples). doubt_after rate true false d.counter (record { samples = s; marked = m }) ds) (stopped_once n (elapsed p d.counter).0))

  pub after_idle : (first : Bool) (p : ℕ) → d.sighting.fit ≡ false
      → doubt_after rate false first p no_doubt (d ∷ ds) ≡ doubt_after rate false false d.counter no_doubt ds
  unfolding doubt_after
  after_idle first p f = rw (f, idle_step rate false (added first p d.counter))

-- a mark stays
pub stays_marked : (rate : ℕ) (begun first : Bool) (p : ℕ) (a : AxisDoubt) (ds : List Counted) → a.marked ≡ true
    → (doubt_after rate begun first p a ds).marked ≡ true
unfolding doubt_after
stays_marked rate begun first p a [] e = e
stays_marked rate begun first p a (d ∷ ds) e = stays_marked rate (begun || d.sighting.fit) false d.counter _ ds (mark_stays rate begun d.sighting.fit a _ e)

-- ---- marked where it may have slipped

-- the next fit one lies too far behind the last, n samples behind which stands the counter p
record Reaches (rate n p : ℕ) (ds : List Counted) : Type 0 where
  between : List Counted
  later : Counted
  behind : List Counted
  parts : ds ≡ between ++ (later ∷ behind)
  unfit_between : AllUnfit between
  fit_later : later.sighting.fit ≡ true
  far : Doubtful rate (n + samples_over p (between ++ (later ∷ [])))

far_as : (rate : ℕ) {n k : ℕ} → n ≡ k → Doubtful rate n → Doubtful rate k
far_as rate e (inl h) = inl (omega arith)
far_as rate e (inr h) = inr h

marks_far : (rate n : ℕ) → Doubtful rate n → marks rate (samples (min n greatest_sum)) ≡ true
marks_far rate n (inl h) = far_marks rate (samples (min n greatest_sum)) ((stop_above n).0 h)
marks_far rate n (inr e) = rw e (trigger_marks (samples (min n greatest_sum)))

reached_marked : (rate : ℕ) (between : List Counted) (later : Counted) (behind : List Counted) (n p : ℕ) (m : Bool)
    → AllUnfit between → later.sighting.fit ≡ true → Doubtful rate (n + samples_over p (between ++ (later ∷ [])))
    → (doubt_after rate true false p (with_sum n m) (between ++ (later ∷ behind))).marked ≡ true
unfolding samples_over AllUnfit
reached_marked rate [] later behind n p m a f h =
    let e = (elapsed p later.counter).0 in
    ap (λ (x : AxisDoubt). x.marked) (after_fit rate later behind p n m f)
    ∙ stays_marked rate true false later.counter _ behind (or_true m (marks_far rate (n + e) (far_as rate (omega arith) h)))
reached_marked rate (d ∷ between) later behind n p m a f h =
    let e = (elapsed p d.counter).0 in
    ap (λ (x : AxisDoubt). x.marked) (after_unfit rate d (between ++ (later ∷ behind)) p n m a.0)
    ∙ reached_marked rate between later behind (n + e) d.counter m a.1 f (far_as rate (omega arith) h)

-- a fit one begins the sum anew, whatever the axis kept
after_any : (rate : ℕ) (d : Counted) (ds : List Counted) (begun first : Bool) (p : ℕ) (a : AxisDoubt) → d.sighting.fit ≡ true
    → (m : Bool) × (doubt_after rate begun first p a (d ∷ ds) ≡ doubt_after rate true false d.counter (with_sum 0 m) ds)
unfolding doubt_after doubt_step fit_doubt
after_any rate d ds begun first p a f = (
  a.marked || (begun && marks rate (sum_with a.samples (added first p d.counter))),
  rw (f, or_true begun {t = true} refl),
)

slipped_marked :
    (rate : ℕ) (before : List Counted) (earlier : Counted) (between : List Counted) (later : Counted) (behind : List Counted) (begun first : Bool) (p : ℕ) (a : AxisDoubt)
    → earlier.sighting.fit ≡ true → AllUnfit between → later.sighting.fit ≡ true
    → Doubtful rate (samples_over earlier.counter (between ++ (later ∷ [])))
    → (doubt_after rate begun first p a (before ++ (earlier ∷ (between ++ (later ∷ behind))))).marked ≡ true
unfolding doubt_after
slipped_marked rate [] earlier between later behind begun first p a f u g h =
    let s = after_any rate earlier (between ++ (later ∷ behind)) begun first p a f in
    ap (λ (x : AxisDoubt). x.marked) s.1 ∙ reached_marked rate between later behind 0 earlier.counter s.0 u g (far_as rate (omega arith) h)
slipped_marked rate (d ∷ before) earlier between later behind begun first p a f u g h =
    slipped_marked rate before earlier between later behind _ false d.counter _ f u g h

-- ---- and nowhere else

slip_later : {rate : ℕ} (d : Counted) {ds : List Counted} → MaySlip rate ds → MaySlip rate (d ∷ ds)
slip_later d s =
    record {
      before = d ∷ s.before;
      earlier = s.earlier;
      between = s.between;
      later = s.later;
      behind = s.behind;
      parts = ap (λ (l : List Counted). d ∷ l) s.parts;
      fit_earlier = s.fit_earlier;
      unfit_between = s.unfit_between;
      fit_later = s.fit_later;
      far = s.far;
    }

slip_here : (rate : ℕ) (d : Counted) {ds : List Counted} → d.sighting.fit ≡ true → Reaches rate 0 d.counter ds → MaySlip rate (d ∷ ds)
slip_here rate d f r =
    record {
      before = [];
      earlier = d;
      between = r.between;
      later = r.later;
      behind = r.behind;
      parts = ap (λ (l : List Counted). d ∷ l) r.parts;
      fit_earlier = f;
      unfit_between = r.unfit_between;
      fit_later = r.fit_later;
      far = far_as rate (omega arith) r.far;
    }

reach_later : (rate n p : ℕ) (d : Counted) {ds : List Counted} → d.sighting.fit ≡ false
    → Reaches rate (n + (elapsed p d.counter).0) d.counter ds → Reaches rate n p (d ∷ ds)
unfolding samples_over AllUnfit
reach_later rate n p d f r =
    record {
      between = d ∷ r.between;
      later = r.later;
      behind = r.behind;
      parts = ap (λ (l : List Counted). d ∷ l) r.parts;
      unfit_between = (f, r.unfit_between);
      fit_later = r.fit_later;
      far = far_as rate (omega arith) r.far;
    }

reach_here : (rate n p : ℕ) (d : Counted) (ds : List Counted) → d.sighting.fit ≡ true → Doubtful rate (n + (elapsed p d.counter).0) → Reaches rate n p (d ∷ ds)
unfolding samples_over AllUnfit
reach_here rate n p d ds f h =
    record { between = []; later = d; behind = ds; parts = refl; unfit_between = tt; fit_later = f; far = far_as rate (omega arith) h }

-- why a total is marked: it was, or the next fit one lies too far, or it may have slipped behind that
abbrev Why : ℕ → Bool → ℕ → ℕ → List Counted → Type 0
Why rate m n p ds = (m ≡ true) ⊎ (Reaches rate n p ds ⊎ MaySlip rate ds)

module _ (rate n p : ℕ) (d : Counted) (ds : List Counted) where
  unstopped : (k : ℕ) → Doubtful rate (min k greatest_sum) → Doubtful rate k
  unstopped k (inl h) = inl ((stop_above k).1 h)
  unstopped k (inr h) = inr h

  why_fit : (m : Bool) → d.sighting.fit ≡ true
      → Why rate (m || marks rate (samples (min (n + (elapsed p d.counter).0) greatest_sum))) 0 d.counter ds → Why rate m n p (d ∷ ds)
  why_fit true f (inl e) = inl refl
  why_fit false f (inl e) = inr (inl (reach_here rate n p d ds f (unstopped (n + (elapsed p d.counter).0) (marked_why rate _ e))))
  why_fit m f (inr (inl r)) = inr (inr (slip_here rate d f r))
  why_fit m f (inr (inr s)) = inr (inr (slip_later d s))

  why_unfit : (m : Bool) → d.sighting.fit ≡ false → Why rate m (n + (elapsed p d.counter).0) d.counter ds → Why rate m n p (d ∷ ds)
  why_unfit m f (inl e) = inl e
  why_unfit m f (inr (inl r)) = inr (inl (reach_later rate n p d f r))
  why_unfit m f (inr (inr s)) = inr (inr (slip_later d s))

marked_from : (rate : ℕ) (ds : List Counted) (n p : ℕ) (m : Bool) → (doubt_after rate true false p (with_sum n m) ds).marked ≡ true → Why rate m n p ds
unfolding doubt_after
marked_from rate [] n p m e = inl e
marked_from rate (d ∷ ds) n p m e = by d.sighting.fit refl (λ n' p' m' x. marked_from rate ds n' p' m' x)
  where
    by : (b : Bool) → d.sighting.fit ≡ b
        → ((n' p' : ℕ) (m' : Bool) → (doubt_after rate true false p' (with_sum n' m') ds).marked ≡ true → Why rate m' n' p' ds) → Why rate m n p (d ∷ ds)
    by true f r = why_fit rate n p d ds m f (r _ _ _ (ap (λ (x : AxisDoubt). x.marked) (sym (after_fit rate d ds p n m f)) ∙ e))
    by false f r = why_unfit rate n p d ds m f (r _ _ _ (ap (λ (x : AxisDoubt). x.marked) (sym (after_unfit rate d ds p n m f)) ∙ e))

-- From an axis that hasn't begun: its total is marked after datagrams exactly if it may have slipped among them, whatever the sums that were kept
pub marked_slipped : (rate : ℕ) (ds : List Counted) (first : Bool) (p : ℕ) → (doubt_after rate false first p no_doubt ds).marked ≡ true → MaySlip rate ds
unfolding doubt_after
marked_slipped rate [] first p e = let z : ◌≡◌ {A = ℕ} 0 1 = cc in absurd (omega arith)
marked_slipped rate (d ∷ ds) first p e = by d.sighting.fit refl (λ x. marked_slipped rate ds false d.counter x)
  where
    begun : d.sighting.fit ≡ true → Why rate false 0 d.counter ds → MaySlip rate (d ∷ ds)
    begun f (inl x) = let z : ◌≡◌ {A = ℕ} 0 1 = cc in absurd (omega arith)
    begun f (inr (inl r)) = slip_here rate d f r
    begun f (inr (inr s)) = slip_later d s

    by : (b : Bool) → d.sighting.fit ≡ b → ((doubt_after rate false false d.counter no_doubt ds).marked ≡ true → MaySlip rate ds) → MaySlip rate (d ∷ ds)
    by true f r = begun f (marked_from rate ds 0 d.counter false (ap (λ (x : AxisDoubt). x.marked) (sym (after_first rate d ds first p f)) ∙ e))
    by false f r = slip_later d (r (ap (λ (x : AxisDoubt). x.marked) (sym (after_idle rate d ds first p f)) ∙ e))

pub slipped_marks : (rate : ℕ) (ds : List Counted) (first : Bool) (p : ℕ) → MaySlip rate ds → (doubt_after rate false first p no_doubt ds).marked ≡ true
slipped_marks rate ds first p s =
    ap (λ (l : List Counted). (doubt_after rate false first p no_doubt l).marked) s.parts
    ∙ slipped_marked rate s.before s.earlier s.between s.later s.behind false first p no_doubt s.fit_earlier s.unfit_between s.fit_later s.far

-- ---- the sum that is kept: the d's since the last fit one, stopping at 65,535

unfit_sum : (rate : ℕ) (ds : List Counted) (n p : ℕ) (m : Bool) → AllUnfit ds
    → (doubt_after rate true false p (with_sum n m) ds).samples.0 ≡ min (n + samples_over p ds) greatest_sum
unfolding doubt_after samples_over AllUnfit
unfit_sum rate [] n p m u = omega arith
unfit_sum rate (d ∷ ds) n p m u =
    ap (λ (x : AxisDoubt). x.samples.0) (after_unfit rate d ds p n m u.0)
    ∙ unfit_sum rate ds (n + (elapsed p d.counter).0) d.counter m u.1
    ∙ omega arith

pub kept_sum : (rate : ℕ) (before : List Counted) (last : Counted) (ds : List Counted) (begun first : Bool) (p : ℕ) (a : AxisDoubt)
    → last.sighting.fit ≡ true → AllUnfit ds
    → (doubt_after rate begun first p a (before ++ (last ∷ ds))).samples.0 ≡ min (samples_over last.counter ds) greatest_sum
unfolding doubt_after
kept_sum rate [] last ds begun first p a f u =
    let s = after_any rate last ds begun first p a f in
    ap (λ (x : AxisDoubt). x.samples.0) s.1 ∙ unfit_sum rate ds 0 last.counter s.0 u ∙ omega arith
kept_sum rate (d ∷ before) last ds begun first p a f u = kept_sum rate before last ds _ false d.counter _ f u
