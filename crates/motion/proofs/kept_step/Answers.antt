-- `motion::kept_step` meets its contract. Assumes nothing.
use Rattle.std.proofs.Common.{◌≡◌, ℕ, ◌^◌, Bool, true, false, cond, ◌&&◌, sym, refl, ◌∙◌, arith, w32, w64}
use Rattle.integers.specs.Ranges.{within}
use Rattle.integers.proofs.Signed.{passed}
use Rattle.motion.specs.declared.Axis.{Axis}
use Rattle.motion.specs.Totals.{fit_step, axis_step, kept_step}
use Rattle.motion.proofs.kept_step.Goals as goal

stays : (counts fit : Bool) (a b : Axis) → (counts && fit) ≡ false → cond counts (cond fit b a) a ≡ a
stays true true a b e = let z : ◌≡◌ {A = ℕ} 0 1 = cc in absurd (omega arith)
stays true false a b e = refl
stays false fit a b e = refl

moves : (counts fit : Bool) (a b : Axis) → (counts && fit) ≡ true → cond counts (cond fit b a) a ≡ b
moves true true a b e = refl
moves true false a b e = let z : ◌≡◌ {A = ℕ} 0 1 = cc in absurd (omega arith)
moves false fit a b e = let z : ◌≡◌ {A = ℕ} 0 1 = cc in absurd (omega arith)

pub returns-then-not-counts-fit : goal.returns-then-not-counts-fit
unfolding kept_step axis_step
returns-then-not-counts-fit c =
    let s = c.args in
    let e = passed w64 (within (2 ^ 53)) s.axis.total (record { sfits = omega arith }) c.fits_total.ensures in
    let h : ((s.kept && within (2 ^ 53) s.axis.total) && s.fit) ≡ false = rw (← e) c.if-not-counts-fit.true in
    sym (stays (s.kept && within (2 ^ 53) s.axis.total) s.fit _ _ h)

pub returns : goal.returns
unfolding kept_step axis_step
returns c =
    let s = c.args in
    let e = passed w64 (within (2 ^ 53)) s.axis.total (record { sfits = omega arith }) c.fits_total.ensures in
    let h : ((s.kept && within (2 ^ 53) s.axis.total) && s.fit) ≡ true = rw (← e) c.if-not-counts-fit.false in
    passed w32 (fit_step s.axis) s.reading c.ranges.reading c.fit_step.ensures
    ∙ sym (moves (s.kept && within (2 ^ 53) s.axis.total) s.fit _ _ h)
