use native.Mathlib.Omega.{arith}
use Rattle.shown_line.proofs.Putting.{room_thousands, room_three, then_three}
use Rattle.text_line.proofs.+put_digits.Goals as goal

pub put_digits-end-requires : goal.put_digits-end-requires
put_digits-end-requires t c = (omega arith, room_thousands c.args.n (omega arith) c.args.at c.requires)

pub put_three-requires : goal.put_three-requires
put_three-requires t c = room_three c.args.n (omega arith) c.put_digits-end.ensures c.requires

pub returns : goal.returns
returns t c = then_three c.args.n (omega arith) c.put_digits-end.ensures c.put_three.ensures
