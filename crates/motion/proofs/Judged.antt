-- Laws of the judgement of an axis: which one is named, and that fit is the fit of 01 and 2.2 (02, 2.3). Assumes nothing.
use Rattle.std.proofs.Common.{◌≡◌, ℕ, Bool, true, false, cond, not, ◌&&◌, ◌||◌, List, sym, refl, ap, ◌∙◌}
use Rattle.integers.proofs.Booleans.{and_true, or_split}
use Rattle.motion.specs.declared.Judgement.{Judgement}
use Rattle.motion.specs.declared.Judgement.TheVariants.{Fit, Integrity, StartUp, Error, Overload}
use Rattle.motion.specs.Status.{is_set, named, unfit, fit}
use Rattle.motion.specs.Judgements.{applies, judgement_of, is_fit, judgements_of, JudgedBy, JudgedCases}
use Rattle.motion.proofs.Status.{unfit_by_name}

-- ---- one axis

module _ (status axis : ℕ) where
  -- each is named where it applies and none before it does
  pub judged_integrity : is_set status 7 ≡ true → judgement_of status axis ≡ Integrity
  unfolding judgement_of
  judged_integrity i = rw i

  pub judged_start_up : is_set status 7 ≡ false → is_set status 6 ≡ true → judgement_of status axis ≡ StartUp
  unfolding judgement_of
  judged_start_up i s = rw (i, s)

  module _ (i : is_set status 7 ≡ false) (s : is_set status 6 ≡ false) where
    pub error_first : applies status axis Error ≡ true → judgement_of status axis ≡ Error
    unfolding judgement_of
    error_first e = rw (i, s, e)

    pub overload_first : applies status axis Error ≡ false → applies status axis Overload ≡ true → judgement_of status axis ≡ Overload
    unfolding judgement_of
    overload_first e o = rw (i, s, e, o)

    -- and fit where none applies
    pub fit_if_none : applies status axis Error ≡ false → applies status axis Overload ≡ false → judgement_of status axis ≡ Fit
    unfolding judgement_of
    fit_if_none e o = rw (i, s, e, o)

  -- an unfit axis without integrity and start_up: error by bit 3, overload without it
  pub judged_error :
      (is_set status 7 || is_set status 6) ≡ false → is_set status 3 ≡ true → fit status axis ≡ false → judgement_of status axis ≡ Error
  judged_error c e u =
      let clear = or_split (is_set status 7) (is_set status 6) c in
      error_first clear.0 clear.1 (and_true e (unfit_by_name status axis c u).1)

  pub judged_overload :
      (is_set status 7 || is_set status 6) ≡ false → is_set status 3 ≡ false → fit status axis ≡ false → judgement_of status axis ≡ Overload
  judged_overload c e u =
      let clear = or_split (is_set status 7) (is_set status 6) c in
      let Named-by = unfit_by_name status axis c u in
      let overload : is_set status 4 ≡ true = sym (ap (λ (b : Bool). b || is_set status 4) e) ∙ Named-by.0 in
      overload_first clear.0 clear.1 (ap (λ (b : Bool). b && named status axis) e) (and_true overload Named-by.1)

  -- a judgement is fit exactly where the axis is
  pub judged_fit : is_fit (judgement_of status axis) ≡ fit status axis
  unfolding judgement_of unfit
  judged_fit = by (is_set status 7) (is_set status 6) (is_set status 3) (is_set status 4) (named status axis)
    where
      by :
          (i s e o n : Bool)
          → is_fit (cond i Integrity (cond s StartUp (cond (e && n) Error (cond (o && n) Overload Fit)))) ≡ not ((i || s) || ((e || o) && n))
      by true s e o n = refl
      by false true e o n = refl
      by false false true o true = refl
      by false false true true false = refl
      by false false true false false = refl
      by false false false true true = refl
      by false false false true false = refl
      by false false false false n = refl

  -- fit applies exactly where it is named
  pub fit_applies : applies status axis Fit ≡ is_fit (judgement_of status axis)
  fit_applies = sym judged_fit

  -- the judgement that is named applies
  pub judged_applies : applies status axis (judgement_of status axis) ≡ true
  unfolding judgement_of
  judged_applies = by (holds Integrity) (holds StartUp) (holds Error) (holds Overload) refl refl refl refl
    where
      holds : Judgement → Bool
      holds j = applies status axis j

      by :
          (i s e o : Bool) → holds Integrity ≡ i → holds StartUp ≡ s → holds Error ≡ e → holds Overload ≡ o
          → holds (cond i Integrity (cond s StartUp (cond e Error (cond o Overload Fit)))) ≡ true
      by true s e o hi hs he ho = hi
      by false true e o hi hs he ho = hs
      by false false true o hi hs he ho = he
      by false false false true hi hs he ho = ho
      by false false false false hi hs he ho = fit_applies ∙ ap is_fit (fit_if_none hi hs he ho)

-- by a status byte of 0 every axis is fit
pub judged_zero : (axis : ℕ) → judgement_of 0 axis ≡ Fit
unfolding judgement_of
judged_zero axis = refl

-- ---- the nine axes

-- each axis by its own group's status byte
pub judged_by : (statuses : List ℕ) → JudgedBy statuses (judgements_of statuses)
unfolding judgements_of
judged_by statuses =
    record {
      gyro = record { x = refl; y = refl; z = refl };
      accelerometer = record { x = refl; y = refl; z = refl };
      inclinometer = record { x = refl; y = refl; z = refl };
    }

-- in numbers
pub judged_cases : JudgedCases
unfolding judgement_of judgements_of unfit
judged_cases =
    record {
      integrity = refl;
      start_up = refl;
      outside_conditions = refl;
      error_and_overload = refl;
      overload = refl;
      overload_of_x = refl;
      error_of_y = refl;
      error_of_z = refl;
      each_group = refl;
    }
