use native.Mathlib.Omega.{arith}
use Prim.Native.Nat.{◌+◌, ◌≤◌}
use lib.IntN.{pos}
use lib.ListN.{length, get_or}
use Rattle.integers.specs.Buffers.{Put}
use Rattle.integers.specs.Bytes.{value_bytes}
use Rattle.integers.proofs.Buffers.{put_none, then_put}
use Rattle.making.proofs.PartWriting.{put_passed, value_end, axes_length, axes_put, axes_none}
use Rattle.making.proofs.put_axes.Goals as goal
use Rattle.making.proofs.put_axes.Goals.{After-put_value-last, After-put_value-second, After-put_value-third, Else-not-carried}

-- each value where the one before it ends
x : (c : After-put_value-second) → let s = c.before.before.before.before.before in Put s.args.buffer.now s.args.at (value_bytes s.args.width (get_or s.args.row 0 (pos 0))) c.put_value-second.new.buffer c.put_value-second.result
x c = let s = c.before.before.before.before.before in put_passed (value_bytes s.args.width) (get_or s.args.row 0 (pos 0)) (record { sfits = c.before.put_value-arg-2-1.given }) c.put_value-second.ensures

y : (c : After-put_value-third) → let s = c.before.before.before.before.before.before.before.before.before.before in Put c.before.before.before.before.before.put_value-second.new.buffer c.before.before.before.before.before.put_value-second.result (value_bytes s.args.width (get_or s.args.row 1 (pos 0))) c.put_value-third.new.buffer c.put_value-third.result
y c = let s = c.before.before.before.before.before.before.before.before.before.before in put_passed (value_bytes s.args.width) (get_or s.args.row 1 (pos 0)) (record { sfits = c.before.put_value-arg-4-1.given }) c.put_value-third.ensures

z : (c : After-put_value-last) → let s = c.before.before.before.before.before.before.before.before.before.before.before.before.before.before.before in Put c.before.before.before.before.before.put_value-third.new.buffer c.before.before.before.before.before.put_value-third.result (value_bytes s.args.width (get_or s.args.row 2 (pos 0))) c.put_value-last.new.buffer c.put_value-last.result
z c = let s = c.before.before.before.before.before.before.before.before.before.before.before.before.before.before.before in put_passed (value_bytes s.args.width) (get_or s.args.row 2 (pos 0)) (record { sfits = c.before.put_value-arg-6-1.given }) c.put_value-last.ensures

-- room for all
room : (c : Else-not-carried) → let a = c.before.before.args in a.at + (a.width + a.width + a.width + 1) ≤ length a.buffer.now
room c =
    let s = c.before.before in
    omega (arith, s.requires.status_in_bounds, axes_length s.args.width s.args.row s.args.status c.if-not-carried.false)

pub returns-then-not-carried : goal.returns-then-not-carried
returns-then-not-carried c = let a = c.args in axes_none a.width a.row a.status c.if-not-carried.true

pub put_value-second-requires : goal.put_value-second-requires
put_value-second-requires c = (omega arith, omega arith, omega (arith, room (goal.at.put_value-second-requires c).Else-not-carried))

pub put_value-third-requires : goal.put_value-third-requires
put_value-third-requires c = let s = c in
    let e = value_end s.args.width (get_or s.args.row 0 (pos 0)) (x (goal.at.put_value-third-requires c).After-put_value-second) in
    (omega arith, omega arith, omega (arith, room (goal.at.put_value-third-requires c).Else-not-carried))

pub put_value-last-requires : goal.put_value-last-requires
put_value-last-requires c = let s = c in
    let e = value_end s.args.width (get_or s.args.row 0 (pos 0)) (x (goal.at.put_value-last-requires c).After-put_value-second) in
    let f = value_end s.args.width (get_or s.args.row 1 (pos 0)) (y (goal.at.put_value-last-requires c).After-put_value-third) in
    (omega arith, omega arith, omega (arith, room (goal.at.put_value-last-requires c).Else-not-carried))

pub put_value-requires : goal.put_value-requires
put_value-requires c = let s = c in
    let e = value_end s.args.width (get_or s.args.row 0 (pos 0)) (x (goal.at.put_value-requires c).After-put_value-second) in
    let f = value_end s.args.width (get_or s.args.row 1 (pos 0)) (y (goal.at.put_value-requires c).After-put_value-third) in
    let g = value_end s.args.width (get_or s.args.row 2 (pos 0)) (z (goal.at.put_value-requires c).After-put_value-last) in
    (omega arith, omega arith, omega (arith, room (goal.at.put_value-requires c).Else-not-carried))

pub returns : goal.returns
returns c = let s = c in
    axes_put s.args.width s.args.row s.args.status c.if-not-carried.false
    (then_put (x (goal.at.returns c).After-put_value-second)
    (then_put (y (goal.at.returns c).After-put_value-third)
    (then_put (z (goal.at.returns c).After-put_value-last) (then_put (put_passed (value_bytes 1) s.args.status s.ranges.status c.put_value.ensures) put_none))))
