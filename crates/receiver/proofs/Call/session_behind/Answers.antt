-- `Call::session_behind` meets its contract. Assumes nothing.
use native.Mathlib.Omega.{arith}
use lib.Seq.{take_all}
use Rattle.receiver.proofs.Calls.{room}
use Rattle.receiver.proofs.Call.session_behind.Goals as goal

pub overflow_add-self : goal.overflow_add-self
overflow_add-self c = omega (arith, (room c.args.self.now c.args.passed c.requires.0).passed)

pub overflow_add-self-2 : goal.overflow_add-self-2
overflow_add-self-2 c = omega (arith, (room c.args.self.now c.args.taken c.requires.1).fed)

pub returns : goal.returns
returns c = rw (c.session_with.ensures, take_all 64 c.args.undecided.now c.requires.2)
