use native.Mathlib.Omega.{arith}
use Prim.Native.Nat.{◌+◌, ◌≤◌}
use lib.ListN.{length}
use Rattle.integers.specs.Buffers.{Put}
use Rattle.integers.specs.Bytes.{value_bytes}
use Rattle.integers.proofs.Buffers.{put_none, then_put}
use Rattle.making.proofs.PartWriting.{put_passed, value_end, aux_length, aux_put, aux_none}
use Rattle.making.proofs.put_aux.Goals as goal
use Rattle.making.proofs.put_aux.Goals.{After-put_value-second, Else-not-carried}

-- the value, then the status
x : (c : After-put_value-second) → let s = c.before.before.before.before in Put s.args.buffer.now s.args.at (value_bytes 3 s.args.value) c.put_value-second.new.buffer c.put_value-second.result
x c = let s = c.before.before.before.before in put_passed (value_bytes 3) s.args.value s.ranges.value c.put_value-second.ensures

room : (c : Else-not-carried) → let a = c.before.before.args in a.at + 4 ≤ length a.buffer.now
room c = let s = c.before.before in omega (arith, s.requires, aux_length s.args.value s.args.status c.if-not-carried.false)

pub returns-then-not-carried : goal.returns-then-not-carried
returns-then-not-carried c = let a = c.args in aux_none a.value a.status c.if-not-carried.true

pub put_value-second-requires : goal.put_value-second-requires
put_value-second-requires c = (omega arith, omega arith, omega (arith, room (goal.at.put_value-second-requires c).Else-not-carried))

pub put_value-requires : goal.put_value-requires
put_value-requires c = let e = value_end 3 c.args.value (x (goal.at.put_value-requires c).After-put_value-second) in (omega arith, omega arith, omega (arith, room (goal.at.put_value-requires c).Else-not-carried))

pub returns : goal.returns
returns c = let s = c in
    aux_put s.args.value s.args.status c.if-not-carried.false
    (then_put (x (goal.at.returns c).After-put_value-second) (then_put (put_passed (value_bytes 1) s.args.status s.ranges.status c.put_value.ensures) put_none))
