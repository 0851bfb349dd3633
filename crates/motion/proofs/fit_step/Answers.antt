-- `motion::fit_step` meets its contract. Assumes nothing.
use Rattle.std.proofs.Common.{◌≡◌, ◌^◌, ◌≤◌, true, cond, ℤ, pos, ◌+ℤ◌, nat_abs, sym, refl, ap, ◌∙◌, subst, arith, w32, w64, SFits, to_z, of_z}
use mir.ValLaws.{to_z-of_z}
use Rattle.motion.specs.Totals.{difference, fit_step}
use Rattle.integers.proofs.Sizes.{abs_add}
use Rattle.integers.proofs.Signed.{sfits_of_abs, widened, read_back}
use Rattle.motion.proofs.Bounds.{difference_bound}
use Rattle.motion.proofs.fit_step.Goals as goal
use Rattle.motion.proofs.fit_step.Goals.{After-difference}

module _ (t d : ℤ) (h : nat_abs t ≤ 2 ^ 53) (k : nat_abs d ≤ 8388608) where
  t_fits : SFits w64 t
  t_fits = sfits_of_abs w64 t (omega arith)

  d_fits : SFits w32 d
  d_fits = sfits_of_abs w32 d (omega arith)

  sum_is : to_z w64 (of_z w64 t) +ℤ to_z w64 (of_z w64 (to_z w32 (of_z w32 d))) ≡ t +ℤ d
  sum_is =
      ap (λ (x : ℤ). x +ℤ to_z w64 (of_z w64 (to_z w32 (of_z w32 d)))) (to_z-of_z w64 t t_fits)
      ∙ ap (λ (x : ℤ). t +ℤ x) (widened w32 w64 d_fits tt)

  sum_fits : SFits w64 (t +ℤ d)
  sum_fits = sfits_of_abs w64 (t +ℤ d) (omega (arith, abs_add t d))

-- the difference that the call gave
given : (c : After-difference) →
    let a = c.before.before.before.before.args in
    c.difference.result ≡ difference a.reading a.axis.last
given c =
    let s = c.before.before.before.before in
    let f : SFits w32 s.args.axis.last = record { sfits = omega arith } in
    let e = rw (to_z-of_z w32 s.args.reading s.ranges.reading) at c.difference.ensures in
    rw (to_z-of_z w32 s.args.axis.last f) at e

small : (c : After-difference) → nat_abs c.difference.result ≤ 8388608
small c =
    let a = c.before.before.before.before.args in
    subst (λ (z : ℤ). nat_abs z ≤ 8388608) (sym (given c)) (difference_bound a.reading a.axis.last)

-- the new total, as it is read back
summed : (c : After-difference) →
    let s = c.before.before.before.before.args in
    to_z w64 (of_z w64 (to_z w64 (of_z w64 s.axis.total) +ℤ to_z w64 (of_z w64 (to_z w32 (of_z w32 c.difference.result)))))
    ≡ cond s.axis.begun (s.axis.total +ℤ difference s.reading s.axis.last) (pos 0)
summed c =
    let s = c.before.before.before.before in
    let t = s.args.axis.total in
    rw (c.before.before.before.if-begun.true, ← given c)
    (read_back w64 (sum_is t c.difference.result s.requires (small c)) (sum_fits t c.difference.result s.requires (small c)))

pub returns-then-begun : goal.returns-then-begun
unfolding fit_step
returns-then-begun c =
    rw (to_z-of_z w32 c.args.reading c.ranges.reading)
    (ap (λ (z : ℤ). record { begun = true; last = c.args.reading; total = z }) (summed (goal.at.returns-then-begun c).After-difference))

pub returns-else-begun : goal.returns-else-begun
unfolding fit_step
returns-else-begun c = rw (to_z-of_z w32 c.args.reading c.ranges.reading, c.if-begun.false) refl
