use native.Mathlib.Omega.{arith}
use Rattle.shown_line.proofs.Putting.{room_thousands, room_three, then_three}
use Rattle.text_line.proofs.put_million.Goals as goal

pub put_small-end-requires : goal.put_small-end-requires
put_small-end-requires c = (omega arith, room_thousands c.args.n (omega arith) c.args.at c.requires.1)

pub put_three-requires : goal.put_three-requires
put_three-requires c =
    room_three c.args.n (omega (arith, c.if-n-lt1000.false)) c.put_small-end.ensures c.requires.1

pub returns : goal.returns
returns c =
    then_three c.args.n (omega (arith, c.if-n-lt1000.false)) c.put_small-end.ensures c.put_three.ensures
