use Prim.Native.Nat.{ℕ, ◌+◌, ◌≤◌}
use mathlib.Core.Bool.{◌&&◌}
use mathlib.Core.List.{List, ◌++◌}
use lib.IntN.{ℤ, pos}
use lib.ListN.{length, get_or}
use Rattle.integers.specs.Buffers.{Put}
use Rattle.integers.proofs.Buffers.{then_put, room_first, room_then}
use Rattle.making.specs.Writing.{axes_bytes, temperatures_bytes}
use Rattle.making.proofs.PartWriting.{put_passed, room_passed}
use Rattle.making.proofs.put_temperatures.Goals as goal
use Rattle.making.proofs.put_temperatures.Goals.{After-put_axes-second, After-put_axes-third, Start}

-- each set as it is put, by its status
abbrev status : Start → ℕ → ℤ
status s g = get_or s.args.values.temperature_statuses g (pos 0)

abbrev gyro_set : Start → ℤ → List ℕ
gyro_set s = axes_bytes s.args.row.temperatures 2 s.args.values.gyro_temperatures

abbrev accelerometer_set : Start → ℤ → List ℕ
accelerometer_set s = axes_bytes (s.args.row.temperatures && s.args.row.acceleration) 2 s.args.values.accelerometer_temperatures

abbrev inclinometer_set : Start → ℤ → List ℕ
inclinometer_set s = axes_bytes (s.args.row.temperatures && s.args.row.inclination) 2 s.args.values.inclinometer_temperatures

abbrev behind_gyro : Start → List ℕ
behind_gyro s = accelerometer_set s (status s 1) ++ inclinometer_set s (status s 2)

room : (s : Start) → s.args.at + length (gyro_set s (status s 0) ++ behind_gyro s) ≤ length s.args.buffer.now
unfolding temperatures_bytes
room s = s.requires

-- each where the one before it ends, and the room behind it
gyro : (c : After-put_axes-second) → let s = c.before.before.before.before.before.before.before.before.before.before in Put s.args.buffer.now s.args.at (gyro_set s (status s 0)) c.put_axes-second.new.buffer c.put_axes-second.result
gyro c = let s = c.before.before.before.before.before.before.before.before.before.before in put_passed (gyro_set s) (status s 0) (record { sfits = c.before.put_axes-arg-2-1.given }) c.put_axes-second.ensures

room_behind : (c : After-put_axes-second) → c.put_axes-second.result + length (behind_gyro c.before.before.before.before.before.before.before.before.before.before) ≤ length c.put_axes-second.new.buffer
room_behind c = let s = c.before.before.before.before.before.before.before.before.before.before in room_then (gyro c) (behind_gyro s) (room s)

accelerometer : (c : After-put_axes-third) → let s = c.before.before.before.before.before.before.before.before.before.before.before.before.before.before.before in Put c.before.before.before.before.before.put_axes-second.new.buffer c.before.before.before.before.before.put_axes-second.result (accelerometer_set s (status s 1)) c.put_axes-third.new.buffer c.put_axes-third.result
accelerometer c = let s = c.before.before.before.before.before.before.before.before.before.before.before.before.before.before.before in put_passed (accelerometer_set s) (status s 1) (record { sfits = c.before.put_axes-arg-4-1.given }) c.put_axes-third.ensures

pub put_axes-second-requires-clause-status_in_bounds : goal.put_axes-second-requires-clause-status_in_bounds
put_axes-second-requires-clause-status_in_bounds c = let s = (goal.at.put_axes-second-requires-clause-status_in_bounds c).Start in
    (room_passed (gyro_set s) (status s 0) s.args.at (record { sfits = c.put_axes-arg-2-1.given }) (room_first s.args.at (gyro_set s (status s 0)) (behind_gyro s) (room s)))

pub put_axes-third-requires-clause-status_in_bounds : goal.put_axes-third-requires-clause-status_in_bounds
put_axes-third-requires-clause-status_in_bounds c = let s = (goal.at.put_axes-third-requires-clause-status_in_bounds c).Start in
    let at = c.put_axes-second.result in
    (room_passed (accelerometer_set s) (status s 1) at (record { sfits = c.put_axes-arg-4-1.given }) (room_first at (accelerometer_set s (status s 1)) (inclinometer_set s (status s 2)) (room_behind (goal.at.put_axes-third-requires-clause-status_in_bounds c).After-put_axes-second)))

pub put_axes-requires-clause-status_in_bounds : goal.put_axes-requires-clause-status_in_bounds
put_axes-requires-clause-status_in_bounds c = let s = (goal.at.put_axes-requires-clause-status_in_bounds c).Start in
    (room_passed (inclinometer_set s) (status s 2) c.put_axes-third.result (record { sfits = c.put_axes-arg-6-1.given }) (room_then (accelerometer (goal.at.put_axes-requires-clause-status_in_bounds c).After-put_axes-third) (inclinometer_set s (status s 2)) (room_behind (goal.at.put_axes-requires-clause-status_in_bounds c).After-put_axes-second)))

pub returns : goal.returns
unfolding temperatures_bytes
returns c = let s = (goal.at.returns c).Start in
    then_put (gyro (goal.at.returns c).After-put_axes-second)
    (then_put (accelerometer (goal.at.returns c).After-put_axes-third)
    (put_passed (inclinometer_set s) (status s 2) (record { sfits = c.put_axes-arg-6-1.given }) c.put_axes.ensures))
