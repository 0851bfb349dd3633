-- `history::advance` meets its contract. Assumes nothing.
use borrow.Author.Tests.{le-leb, lt-leb}
use Rattle.history.specs.History.{history_next, advanced}
use Rattle.history.proofs.advance.Goals as goal

pub returns-then-handed-ge-GREATEST_COUNT : goal.returns-then-handed-ge-GREATEST_COUNT
unfolding advanced
returns-then-handed-ge-GREATEST_COUNT c = rw (le-leb _ _ c.if-handed-ge-GREATEST_COUNT.true)

pub returns : goal.returns
unfolding advanced history_next
returns c =
    rw (
      lt-leb _ _ c.if-handed-ge-GREATEST_COUNT.false,
      c.step-doubt_after.ensures,
      c.step-after.ensures,
      c.awaits_first-first.ensures,
    )
