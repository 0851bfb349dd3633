use mathlib.Core.Bool.{true}
use lib.IntN.{pos}
use lib.ListN.{get_or}
use mathlib.Core.List.{[]}
use mir.Syntax.{w32}
use Rattle.integers.proofs.Signed.{passed}
use Rattle.making.specs.Writing.{axes_outside, groups_outside}
use Rattle.making.proofs.groups_outside.Goals as goal

pub returns : goal.returns
unfolding groups_outside
returns c = let a = c.args in
    rw (
      passed w32 (axes_outside true 3 (get_or a.readings 0 [])) (get_or a.statuses 0 (pos 0)) (record { sfits = c.axes_outside-arg-2-1.given }) c.axes_outside.ensures,
      passed w32 (axes_outside a.row.acceleration 3 (get_or a.readings 1 [])) (get_or a.statuses 1 (pos 0)) (record { sfits = c.axes_outside-arg-4-1.given }) c.axes_outside-2.ensures,
      passed w32 (axes_outside a.row.inclination 3 (get_or a.readings 2 [])) (get_or a.statuses 2 (pos 0)) (record { sfits = c.axes_outside-arg-6-1.given }) c.axes_outside-3.ensures,
    )
