-- `gaps::missed` meets its contract. Assumes nothing.
use borrow.Author.Tests.{eq-eqb, ne_eqb}
use Rattle.gaps.specs.Gaps.{missed_after}
use Rattle.gaps.proofs.missed.Goals as goal

pub returns-then-d-s-eq0 : goal.returns-then-d-s-eq0
unfolding missed_after
returns-then-d-s-eq0 c = simp (eq-eqb _ _ c.if-d-s-eq0.true)

pub returns : goal.returns
unfolding missed_after
returns c = simp (ne_eqb _ _ c.if-d-s-eq0.false)
