-- `motion::judge_axis` meets its contract. Assumes nothing.
use Rattle.std.proofs.Common.{◌≡◌, ℕ, Bool, ◌&&◌, sym, ap, ◌∙◌}
use borrow.Author.Tests.{eq-eqb, ne_eqb}
use Rattle.motion.specs.Status.{is_set}
use Rattle.motion.proofs.Judged.{judged_integrity, judged_start_up, error_first, overload_first, fit_if_none}
use Rattle.motion.proofs.judge_axis.Goals as goal

-- a bit of an axis that is named, by what the function is told of it
by_name : (status k : ℕ) {told named : Bool} → told ≡ named → (is_set status k && named) ≡ (is_set status k && told)
by_name status k e = ap (λ (b : Bool). is_set status k && b) (sym e)

pub returns-then-integrity : goal.returns-then-integrity
returns-then-integrity c axis n = sym (judged_integrity c.args.status axis (eq-eqb _ _ c.if-integrity.true))

pub returns-then-start_up : goal.returns-then-start_up
returns-then-start_up c axis n = sym (judged_start_up c.args.status axis (ne_eqb _ _ c.if-integrity.false) (eq-eqb _ _ c.if-start_up.true))

pub returns-then-error : goal.returns-then-error
returns-then-error c axis n =
    let status = c.args.status in
    sym (error_first status axis (ne_eqb _ _ c.if-integrity.false) (ne_eqb _ _ c.if-start_up.false) (by_name status 3 n ∙ c.if-error.true))

pub returns-then-overload : goal.returns-then-overload
returns-then-overload c axis n =
    let status = c.args.status in
    sym
    (overload_first status axis (ne_eqb _ _ c.if-integrity.false) (ne_eqb _ _ c.if-start_up.false) (by_name status 3 n ∙ c.if-error.false)
    (by_name status 4 n ∙ c.if-overload.true))

pub returns : goal.returns
returns c axis n =
    let status = c.args.status in
    sym
    (fit_if_none status axis (ne_eqb _ _ c.if-integrity.false) (ne_eqb _ _ c.if-start_up.false) (by_name status 3 n ∙ c.if-error.false)
    (by_name status 4 n ∙ c.if-overload.false))
