use mathlib.Core.Path.{ap}
use native.Mathlib.Omega.{arith}
use lib.ListN.{length, length-set}
use Rattle.shown_line.proofs.Digits.{digits_small, digits_two, digits_three}
use Rattle.integers.proofs.Buffers.{put_byte, put_two}
use Rattle.text_line.proofs.put_small.Goals as goal

pub bounds-buffer-at : goal.bounds-buffer-at
bounds-buffer-at c = omega (arith, ap length (digits_small c.args.n c.if-n-lt10.true))

pub returns-then-n-lt10 : goal.returns-then-n-lt10
returns-then-n-lt10 c = rw (digits_small c.args.n c.if-n-lt10.true) put_byte

pub bounds-buffer-at-then-n-lt100 : goal.bounds-buffer-at-then-n-lt100
bounds-buffer-at-then-n-lt100 c = omega (arith, ap length (digits_two c.args.n c.if-n-lt10.false c.if-n-lt100.true))

pub bounds-buffer-at-then-n-lt100-2 : goal.bounds-buffer-at-then-n-lt100-2
bounds-buffer-at-then-n-lt100-2 c = simp length-set (omega (arith, ap length (digits_two c.args.n c.if-n-lt10.false c.if-n-lt100.true)))

pub returns-then-n-lt100 : goal.returns-then-n-lt100
returns-then-n-lt100 c = rw (digits_two c.args.n c.if-n-lt10.false c.if-n-lt100.true) put_two

pub put_three-requires : goal.put_three-requires
put_three-requires c = omega (arith, ap length (digits_three c.args.n c.if-n-lt100.false (omega arith)))

pub returns : goal.returns
returns c = rw (digits_three c.args.n c.if-n-lt100.false (omega arith)) c.put_three.ensures
