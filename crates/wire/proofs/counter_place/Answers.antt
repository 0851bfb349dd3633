use native.Mathlib.Omega.{arith}
use Rattle.wire.proofs.RowPlaces.{counter_at, ends_low}
use Rattle.wire.proofs.counter_place.Goals as goal

pub overflow_add-result : goal.overflow_add-result
overflow_add-result c = omega (arith, c.temperatures_end.ensures, c.if_carried.ensures, ends_low c.args.row)

pub returns : goal.returns
returns c = rw (counter_at c.args.row, c.if_carried.ensures.0, c.temperatures_end.ensures)
