use native.Mathlib.Omega.{arith}
use lib.ListN.{length-set}
use Rattle.making.proofs.ValueWriting.{ending_none, ending_put, ending_two}
use Rattle.making.proofs.put_ending.Goals as goal

pub returns-then-not-terminated : goal.returns-then-not-terminated
returns-then-not-terminated c = ending_none c.if-not-terminated.true

pub bounds-buffer-at : goal.bounds-buffer-at
bounds-buffer-at c = omega (arith, c.requires, ending_two c.if-not-terminated.false)

pub bounds-buffer-at-2 : goal.bounds-buffer-at-2
bounds-buffer-at-2 c = simp length-set (omega (arith, c.requires, ending_two c.if-not-terminated.false))

pub returns : goal.returns
returns c = ending_put c.if-not-terminated.false
