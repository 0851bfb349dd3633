-- `motion::named_axes` meets its contract. Assumes nothing.
use Rattle.std.proofs.Common.{ℕ, Bool, ◌||◌, eqb, ap, ◌∙◌}
use Rattle.motion.specs.Status.{is_set}
use Rattle.motion.proofs.Status.{none_flagged_lem}
use Rattle.motion.proofs.named_axes.Goals as goal

pub returns : goal.returns
returns c =
    ap (λ (none : Bool). record { x = is_set status 0 || none; y = is_set status 1 || none; z = is_set status 2 || none })
    (ap (λ (n : ℕ). eqb n 0) c.flagged_channels-none_flagged.ensures ∙ none_flagged_lem status)
  where
    status : ℕ
    status = c.args.status
