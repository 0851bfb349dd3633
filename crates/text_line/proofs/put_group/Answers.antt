use mathlib.Core.Bool.{◌&&◌}
use mathlib.Core.List.{List, ◌∷◌}
use Prim.Native.Nat.{ℕ, ◌+◌, ◌≤◌}
use lib.ListN.{length}
use Rattle.shown_line.specs.Decimal.{digits}
use Rattle.shown_line.specs.Putting.{behind}
use Rattle.shown_line.specs.ShownLine.{shown_if, axis_fields, total_fields, group_fields}
use Rattle.shown_line.proofs.Fields.{room_field, room_fields, room_more, then_fields}
use Rattle.integers.proofs.Buffers.{then_put, room_then}
use Rattle.text_line.proofs.put_group.Goals as goal
use Rattle.text_line.proofs.put_group.Goals.{Start, After-put_axes-axes}

-- X, Y and Z; the status; the totals
abbrev axes : Start → List (List ℕ)
axes s = axis_fields s.args.carried s.args.row

abbrev status : Start → List ℕ
status s = shown_if s.args.carried (digits s.args.status)

abbrev totals_of : Start → List (List ℕ)
totals_of s = total_fields (s.args.carried && s.args.kept) s.args.totals

abbrev from_status : Start → List (List ℕ)
from_status s = status s ∷ totals_of s

room_status : (c : After-put_axes-axes) → c.put_axes-axes.result + length (behind (from_status c.before.before.before)) ≤ length c.put_axes-axes.new.buffer
unfolding group_fields
room_status c = room_more (axes c.before.before.before) (from_status c.before.before.before) c.put_axes-axes.ensures c.before.before.before.requires

pub put_axes-axes-requires : goal.put_axes-axes-requires
unfolding group_fields
put_axes-axes-requires c = room_fields (axes (goal.at.put_axes-axes-requires c).Start) (from_status (goal.at.put_axes-axes-requires c).Start) c.args.at c.requires

pub put_unsigned-end-requires : goal.put_unsigned-end-requires
put_unsigned-end-requires c = room_field (status (goal.at.put_unsigned-end-requires c).Start) (totals_of (goal.at.put_unsigned-end-requires c).Start) c.put_axes-axes.result (room_status (goal.at.put_unsigned-end-requires c).After-put_axes-axes)

pub put_totals-requires : goal.put_totals-requires
put_totals-requires c = room_then c.put_unsigned-end.ensures (behind (totals_of (goal.at.put_totals-requires c).Start)) (room_status (goal.at.put_totals-requires c).After-put_axes-axes)

pub returns : goal.returns
unfolding group_fields
returns c = then_fields (axes (goal.at.returns c).Start) (from_status (goal.at.returns c).Start) c.put_axes-axes.ensures (then_put c.put_unsigned-end.ensures c.put_totals.ensures)
