-- `motion::fit_axes` meets its contract. Assumes nothing.
use Rattle.std.proofs.Common.{ℕ, Bool, not, ◌&&◌, ◌||◌, [], ◌∷◌, ap}
use Rattle.groups.specs.declared.PerAxis.{PerAxis}
use Rattle.motion.specs.Status.{is_set, unfit}
use Rattle.motion.proofs.fit_axes.Goals as goal

pub returns : goal.returns
unfolding unfit
returns c = ap (λ (named : PerAxis Bool). fit_by named.x ∷ fit_by named.y ∷ fit_by named.z ∷ []) c.named_axes-named.ensures
  where
    status : ℕ
    status = c.args.status

    -- whether an axis is fit, where it is told whether it is named
    fit_by : Bool → Bool
    fit_by is_named = not ((is_set status 7 || is_set status 6) || ((is_set status 3 || is_set status 4) && is_named))
