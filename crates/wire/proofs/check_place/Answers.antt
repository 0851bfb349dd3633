use native.Mathlib.Omega.{arith}
use Rattle.setup.specs.Layout.{counter}
use Rattle.wire.proofs.RowPlaces.{place_low, check_at}
use Rattle.wire.proofs.check_place.Goals as goal

pub overflow_add-result : goal.overflow_add-result
overflow_add-result c = omega (arith, c.counter_place.ensures, place_low c.args.row counter)

pub overflow_add-result-2 : goal.overflow_add-result-2
overflow_add-result-2 c = omega (arith, c.counter_place.ensures, place_low c.args.row counter)

pub returns : goal.returns
returns c = rw (check_at c.args.row, c.counter_place.ensures)
