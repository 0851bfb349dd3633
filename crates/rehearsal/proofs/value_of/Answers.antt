use Rattle.integers.proofs.Signed.{kept}
use Rattle.rehearsal.proofs.Numbers.{number_some, value_none, minus_nearest, plain_nearest}
use Rattle.rehearsal.specs.RehearsalLine.{nearest, number_written}
use mathlib.Core.Bool.{true}
use mathlib.Core.Path.{◌≡◌, sym, ap, ◌∙◌}
use mir.Syntax.{w32}
use Rattle.rehearsal.proofs.value_of.Goals as goal
use Rattle.rehearsal.proofs.value_of.Goals.{Else-not-number_written}

written : (c : Else-not-number_written) → number_written c.before.before.before.args.text.now ≡ true
written c = sym c.before.number_written.ensures ∙ c.if-not-number_written.false

pub returns-then-not-number_written : goal.returns-then-not-number_written
unfolding nearest
returns-then-not-number_written c = sym (ap nearest (value_none c.args.text.now (sym c.number_written.ensures ∙ c.if-not-number_written.true)))

pub bounds-text-0 : goal.bounds-text-0
bounds-text-0 c = number_some c.args.text.now (written (goal.at.bounds-text-0 c).Else-not-number_written)

pub returns-then-text-eq45 : goal.returns-then-text-eq45
returns-then-text-eq45 c =
    kept w32 c.nearest_negative.type_inv c.nearest_negative.ensures ∙ minus_nearest c.args.text.now (written (goal.at.returns-then-text-eq45 c).Else-not-number_written) c.if-text-eq45.true c.magnitude_written.ensures

pub returns : goal.returns
returns c =
    kept w32 c.nearest_positive.type_inv c.nearest_positive.ensures ∙ plain_nearest c.args.text.now (written (goal.at.returns c).Else-not-number_written) c.if-text-eq45.false c.magnitude_written-2.ensures
