use Prim.Native.Nat.{ℕ, ◌+◌, ◌≤◌}
use mathlib.Core.Bool.{Bool, true}
use mathlib.Core.List.{List, [], ◌++◌}
use lib.IntN.{ℤ, pos}
use lib.ListN.{length, get_or}
use Rattle.integers.specs.Buffers.{Put}
use Rattle.integers.proofs.Buffers.{then_put, room_first, room_then}
use Rattle.making.specs.Writing.{axes_bytes, groups_bytes}
use Rattle.making.proofs.PartWriting.{put_passed, room_passed}
use Rattle.making.proofs.put_groups.Goals as goal
use Rattle.making.proofs.put_groups.Goals.{After-put_axes-second, After-put_axes-third, Start}

-- the group g as it is put, by its status
abbrev group : Start → Bool → ℕ → ℤ → List ℕ
group s carried g status = axes_bytes carried 3 (get_or s.args.readings g []) status

abbrev status : Start → ℕ → ℤ
status s g = get_or s.args.statuses g (pos 0)

abbrev behind_gyro : Start → List ℕ
behind_gyro s = group s s.args.row.acceleration 1 (status s 1) ++ group s s.args.row.inclination 2 (status s 2)

room : (s : Start) → s.args.at + length (group s true 0 (status s 0) ++ behind_gyro s) ≤ length s.args.buffer.now
unfolding groups_bytes
room s = s.requires

-- each where the one before it ends, and the room behind it
gyro : (c : After-put_axes-second) → let s = c.before.before.before.before.before in Put s.args.buffer.now s.args.at (group s true 0 (status s 0)) c.put_axes-second.new.buffer c.put_axes-second.result
gyro c = let s = c.before.before.before.before.before in put_passed (group s true 0) (status s 0) (record { sfits = c.before.put_axes-arg-3-1.given }) c.put_axes-second.ensures

room_behind : (c : After-put_axes-second) → c.put_axes-second.result + length (behind_gyro c.before.before.before.before.before) ≤ length c.put_axes-second.new.buffer
room_behind c = let s = c.before.before.before.before.before in room_then (gyro c) (behind_gyro s) (room s)

accelerometer : (c : After-put_axes-third) → let s = c.before.before.before.before.before.before.before.before.before.before.before in Put c.before.before.before.before.before.before.put_axes-second.new.buffer c.before.before.before.before.before.before.put_axes-second.result (group s s.args.row.acceleration 1 (status s 1)) c.put_axes-third.new.buffer c.put_axes-third.result
accelerometer c = let s = c.before.before.before.before.before.before.before.before.before.before.before in put_passed (group s s.args.row.acceleration 1) (status s 1) (record { sfits = c.before.put_axes-arg-6-1.given }) c.put_axes-third.ensures

pub put_axes-second-requires-clause-status_in_bounds : goal.put_axes-second-requires-clause-status_in_bounds
put_axes-second-requires-clause-status_in_bounds c = let s = (goal.at.put_axes-second-requires-clause-status_in_bounds c).Start in
    (room_passed (group s true 0) (status s 0) s.args.at (record { sfits = c.put_axes-arg-3-1.given }) (room_first s.args.at (group s true 0 (status s 0)) (behind_gyro s) (room s)))

pub put_axes-third-requires-clause-status_in_bounds : goal.put_axes-third-requires-clause-status_in_bounds
put_axes-third-requires-clause-status_in_bounds c = let s = (goal.at.put_axes-third-requires-clause-status_in_bounds c).Start in
    let at = c.put_axes-second.result in
    let text = group s s.args.row.acceleration 1 in
    (room_passed text (status s 1) at (record { sfits = c.put_axes-arg-6-1.given }) (room_first at (text (status s 1)) (group s s.args.row.inclination 2 (status s 2)) (room_behind (goal.at.put_axes-third-requires-clause-status_in_bounds c).After-put_axes-second)))

pub put_axes-requires-clause-status_in_bounds : goal.put_axes-requires-clause-status_in_bounds
put_axes-requires-clause-status_in_bounds c = let s = (goal.at.put_axes-requires-clause-status_in_bounds c).Start in
    let text = group s s.args.row.inclination 2 in
    (room_passed text (status s 2) c.put_axes-third.result (record { sfits = c.put_axes-arg-9-1.given }) (room_then (accelerometer (goal.at.put_axes-requires-clause-status_in_bounds c).After-put_axes-third) (text (status s 2)) (room_behind (goal.at.put_axes-requires-clause-status_in_bounds c).After-put_axes-second)))

pub returns : goal.returns
unfolding groups_bytes
returns c = let s = (goal.at.returns c).Start in
    then_put (gyro (goal.at.returns c).After-put_axes-second)
    (then_put (accelerometer (goal.at.returns c).After-put_axes-third)
    (put_passed (group s s.args.row.inclination 2) (status s 2) (record { sfits = c.put_axes-arg-9-1.given }) c.put_axes.ensures))
