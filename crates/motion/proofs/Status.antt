-- Laws of fitness: what each bit of a status byte does to an axis (01, Status; 02, 2.2). Assumes nothing.
use Rattle.std.proofs.Common.{◌≡◌, ℕ, zero, suc, ◌+◌, ◌<◌, Bool, true, false, cond, not, ◌&&◌, ◌||◌, eqb, sym, refl, ap, ◌∙◌, arith, eq-eqb, ne_eqb}
use borrow.Author.Tests.{not-false}
use Rattle.integers.proofs.Booleans.{and_split, and_true, or_true, three_any, three_none}
use Rattle.motion.specs.Status.{bit, is_set, none_flagged, named, unfit, fit, flagged}

-- ---- which channels are flagged

-- a bit is 1 or 0
one_or_zero : (n : ℕ) → n < 2 → n ≡ cond (eqb n 1) 1 0
one_or_zero zero h = refl
one_or_zero (suc zero) h = refl
one_or_zero (suc (suc n)) h = absurd (omega arith)

-- the count of flagged channels tells whether bits 0 to 2 are all clear
pub none_flagged_lem : (status : ℕ) → eqb (flagged status) 0 ≡ none_flagged status
unfolding flagged
none_flagged_lem status =
    by (bit status 0) (bit status 1) (bit status 2) (is_set status 0) (is_set status 1) (is_set status 2) (one_or_zero _ (omega arith))
    (one_or_zero _ (omega arith)) (one_or_zero _ (omega arith))
  where
    by : (x y z : ℕ) (p q r : Bool) → x ≡ cond p 1 0 → y ≡ cond q 1 0 → z ≡ cond r 1 0 → eqb (x + y + z) 0 ≡ not (p || q || r)
    by x y z true q r e f g = ne_eqb (x + y + z) 0 (λ h. omega arith)
    by x y z false true r e f g = ne_eqb (x + y + z) 0 (λ h. omega arith)
    by x y z false false true e f g = ne_eqb (x + y + z) 0 (λ h. omega arith)
    by x y z false false false e f g = eq-eqb (x + y + z) 0 (omega arith)

-- ---- fit and unfit

module _ (status axis : ℕ) where
  -- integrity or start-up leaves no axis fit
  pub unfit_all : (is_set status 7 || is_set status 6) ≡ true → fit status axis ≡ false
  unfolding unfit
  unfit_all e = rw e

  -- measurement error or overload leaves an axis unfit that it names
  names : (is_set status 3 || is_set status 4) ≡ true → named status axis ≡ true → fit status axis ≡ false
  unfolding unfit
  names e n = ap not (or_true (is_set status 7 || is_set status 6) (and_true e n))

  -- one whose bit is set
  pub unfit_named : (is_set status 3 || is_set status 4) ≡ true → is_set status axis ≡ true → fit status axis ≡ false
  unfit_named e n = names e (ap (λ (b : Bool). b || none_flagged status) n)

  -- every one where bits 0 to 2 are clear
  pub unfit_none_flagged :
      (is_set status 3 || is_set status 4) ≡ true → ((other : ℕ) → other < 3 → is_set status other ≡ false) → fit status axis ≡ false
  unfit_none_flagged e clear = names e (or_true (is_set status axis) (ap not (three_none (is_set status) clear)))

  -- an axis whose bit is clear where another one's is set, is fit without integrity and start-up
  pub fit_unnamed :
      (is_set status 7 || is_set status 6) ≡ false → is_set status axis ≡ false → (other : ℕ) → other < 3 → is_set status other ≡ true
      → fit status axis ≡ true
  unfolding unfit
  fit_unnamed e n other h o = rw (e, n, ap not (three_any (is_set status) other h o)) (by (is_set status 3 || is_set status 4))
    where
      by : (some : Bool) → not (false || (some && (false || false))) ≡ true
      by true = refl
      by false = refl

  -- and every axis where there is no measurement error or overload either
  pub fit_clear : (is_set status 7 || is_set status 6) ≡ false → (is_set status 3 || is_set status 4) ≡ false → fit status axis ≡ true
  unfolding unfit
  fit_clear e n = rw (e, n)

  -- an axis that is unfit without integrity and start-up is so by measurement error or overload, which names it
  pub unfit_by_name :
      (is_set status 7 || is_set status 6) ≡ false → fit status axis ≡ false → ((is_set status 3 || is_set status 4) ≡ true) × (named status axis ≡ true)
  unfolding unfit
  unfit_by_name e u =
      and_split (is_set status 3 || is_set status 4) (named status axis)
      (sym (ap (λ (b : Bool). b || ((is_set status 3 || is_set status 4) && named status axis)) e) ∙ not-false (unfit status axis) u)
