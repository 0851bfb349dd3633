use native.Mathlib.Omega.{arith}
use Rattle.shown_line.proofs.Putting.{room_thousands, room_three, then_three}
use Rattle.text_line.proofs.put_billion.Goals as goal

pub put_million-end-requires : goal.put_million-end-requires
put_million-end-requires c = (omega arith, room_thousands c.args.n (omega arith) c.args.at c.requires.1)

pub put_three-requires : goal.put_three-requires
put_three-requires c =
    room_three c.args.n (omega (arith, c.if-n-lt1000000.false)) c.put_million-end.ensures c.requires.1

pub returns : goal.returns
returns c =
    then_three c.args.n (omega (arith, c.if-n-lt1000000.false)) c.put_million-end.ensures c.put_three.ensures
