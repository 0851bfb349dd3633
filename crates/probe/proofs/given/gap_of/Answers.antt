-- `probe::given::gap_of` meets its contract. Assumes nothing.
use mathlib.Core.Path.{sym, ◌∙◌}
use Rattle.probe.specs.Records.{gap_in}
use Rattle.probe.proofs.given.gap_of.Goals as goal

pub returns-then-mark_at : goal.returns-then-mark_at
unfolding gap_in
returns-then-mark_at c = rw (sym c.mark_at.ensures ∙ c.if-mark_at.true)

pub returns : goal.returns
unfolding gap_in
returns c = rw (sym c.mark_at.ensures ∙ c.if-mark_at.false, c.u64_at.ensures)
