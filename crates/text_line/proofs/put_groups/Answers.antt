use mathlib.Core.Bool.{false}
use mathlib.Core.List.{List, [], ◌++◌}
use Prim.Native.Nat.{ℕ, ◌+◌, ◌≤◌}
use lib.ListN.{length, get_or}
use Rattle.shown_line.specs.Putting.{behind}
use Rattle.shown_line.specs.ShownLine.{group_fields, groups_fields}
use Rattle.shown_line.proofs.Fields.{room_fields, room_more, then_fields}
use Rattle.text_line.proofs.put_groups.Goals as goal
use Rattle.text_line.proofs.put_groups.Goals.{Start, After-put_group-first}

abbrev gyro : Start → List (List ℕ)
gyro s = group_fields (get_or s.args.carried 0 false) (get_or s.args.kept 0 false) (get_or s.args.readings 0 []) (get_or s.args.statuses 0 0) s.args.totals.gyro

abbrev accelerometer : Start → List (List ℕ)
accelerometer s = group_fields (get_or s.args.carried 1 false) (get_or s.args.kept 1 false) (get_or s.args.readings 1 []) (get_or s.args.statuses 1 0) s.args.totals.accelerometer

abbrev inclinometer : Start → List (List ℕ)
inclinometer s = group_fields (get_or s.args.carried 2 false) (get_or s.args.kept 2 false) (get_or s.args.readings 2 []) (get_or s.args.statuses 2 0) s.args.totals.inclinometer

abbrev from_accelerometer : Start → List (List ℕ)
from_accelerometer s = accelerometer s ++ inclinometer s

room_second : (c : After-put_group-first) → c.put_group-first.result + length (behind (from_accelerometer c.before.before.before.before.before)) ≤ length c.put_group-first.new.buffer
unfolding groups_fields
room_second c = room_more (gyro c.before.before.before.before.before) (from_accelerometer c.before.before.before.before.before) c.put_group-first.ensures c.before.before.before.before.before.requires

pub put_group-first-requires : goal.put_group-first-requires
unfolding groups_fields
put_group-first-requires c = room_fields (gyro (goal.at.put_group-first-requires c).Start) (from_accelerometer (goal.at.put_group-first-requires c).Start) c.args.at c.requires

pub put_group-second-requires : goal.put_group-second-requires
put_group-second-requires c = room_fields (accelerometer (goal.at.put_group-second-requires c).Start) (inclinometer (goal.at.put_group-second-requires c).Start) c.put_group-first.result (room_second (goal.at.put_group-second-requires c).After-put_group-first)

pub put_group-requires : goal.put_group-requires
put_group-requires c = room_more (accelerometer (goal.at.put_group-requires c).Start) (inclinometer (goal.at.put_group-requires c).Start) c.put_group-second.ensures (room_second (goal.at.put_group-requires c).After-put_group-first)

pub returns : goal.returns
unfolding groups_fields
returns c = then_fields (gyro (goal.at.returns c).Start) (from_accelerometer (goal.at.returns c).Start) c.put_group-first.ensures (then_fields (accelerometer (goal.at.returns c).Start) (inclinometer (goal.at.returns c).Start) c.put_group-second.ensures c.put_group.ensures)
