use native.Mathlib.Omega.{arith}
use Rattle.setup.proofs.Layouts.{before_range, length_parts}
use Rattle.wire.proofs.length_of.Goals as goal

pub overflow_add-result : goal.overflow_add-result
overflow_add-result c = omega (arith, c.check_place.ensures, before_range c.args.row)

pub overflow_add-result-2 : goal.overflow_add-result-2
overflow_add-result-2 c = omega (arith, c.check_place.ensures, c.if_carried.ensures, before_range c.args.row)

pub returns : goal.returns
returns c =
    omega (
      arith,
      length_parts c.args.row c.args.terminated,
      c.check_place.ensures,
      c.if_carried.ensures,
    )
