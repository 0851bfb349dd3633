-- `answers::datagram_of` meets its contract. Assumes nothing.
use mathlib.Core.Path.{◌≡◌}
use lib.ListN.{length}
use Rattle.feeding.specs.Feed.{datagram_with}
use Rattle.feeding.proofs.CallParts.{flagged_three}
use borrow.Author.Rules.{rules}
use Rattle.answers.proofs.datagram_of.Goals as goal
use Rattle.answers.proofs.datagram_of.Goals.{Start}

three : (c : Start) → length c.args.fields.statuses ≡ 3
three c = search rules

pub returns : goal.returns
unfolding datagram_with
returns c =
    rw (
      c.flagged_channels.ensures,
      c.flagged_channels-2.ensures,
      c.flagged_channels-3.ensures,
      c.judgements_of.ensures,
      c.group_values.ensures,
      c.totals_of.ensures,
      c.total_doubles.ensures,
      c.marks_of.ensures,
      flagged_three c.args.fields.statuses (three (goal.at.returns c).Start),
    )
