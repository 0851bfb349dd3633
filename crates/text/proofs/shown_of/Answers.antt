use mathlib.Core.Path.{ap}
use mathlib.Core.Bool.{Bool}
use mathlib.Core.List.{List}
use Rattle.setup.specs.Layout.{groups_of}
use Rattle.text.specs.TextLine.{shown_of}
use Rattle.shown_line.specs.declared.Shown.{Shown}
use Rattle.text.proofs.shown_of.Goals as goal

abbrev both : List Bool → List Bool → Shown
both carried kept = record { carried = carried; kept = kept }

pub returns : goal.returns
unfolding shown_of
returns c = ap (both (groups_of c.args.row)) c.kept_groups-kept.ensures
