use mathlib.Core.Path.{sym}
use Prim.Native.Nat.{◌*◌, ◌/◌, ◌%◌, ◌^◌, ◌≤◌, ◌<◌}
use native.Mathlib.Nat.{div-le_self}
use native.Mathlib.Omega.{arith}
use Rattle.printed_value.proofs.Nearest.{nearest_at_most}
use Rattle.printing.proofs.WholeAndFraction.{unit_range, scale_range, rest_small, whole_part, fraction_part}
use Rattle.printing.proofs.round_size.Goals as goal
use Rattle.printing.proofs.round_size.Goals.{After-nearest-last, After-power_of_ten-scale}

-- the powers are as large as that
unit : (c : After-power_of_ten-scale) → (0 < c.before.power_of_two-unit.result) × (c.before.power_of_two-unit.result ≤ 2 ^ 31)
unit c = rw c.before.power_of_two-unit.ensures (unit_range c.before.before.args.shift c.before.before.requires.1)

scale : (c : After-power_of_ten-scale) → (0 < c.power_of_ten-scale.result) × (c.power_of_ten-scale.result ≤ 10 ^ 9)
scale c = rw c.power_of_ten-scale.ensures (scale_range c.before.before.args.places c.before.before.requires.2)

pub returns : goal.returns
returns c =
    let size = c.args.size in
    let two = c.power_of_two-unit.result in
    let ten = c.power_of_ten-scale.result in
    rw (← c.power_of_ten-scale.ensures, ← c.power_of_two-unit.ensures, c.nearest-last.ensures)
    (sym (whole_part size two ten (unit (goal.at.returns c).After-power_of_ten-scale).0 (scale (goal.at.returns c).After-power_of_ten-scale).0), sym (fraction_part size two ten (unit (goal.at.returns c).After-power_of_ten-scale).0 (scale (goal.at.returns c).After-power_of_ten-scale).0))

small : (c : After-power_of_ten-scale) → c.before.before.args.size % (c.before.power_of_two-unit.result * 2) * c.power_of_ten-scale.result < 2 ^ 62
small c = rest_small c.before.before.args.size c.before.power_of_two-unit.result c.power_of_ten-scale.result (unit c).0 (unit c).1 (scale c).1

pub nearest-last-requires : goal.nearest-last-requires
nearest-last-requires c = ((unit (goal.at.nearest-last-requires c).After-power_of_ten-scale).0, (unit (goal.at.nearest-last-requires c).After-power_of_ten-scale).1, small (goal.at.nearest-last-requires c).After-power_of_ten-scale)

halved : (c : After-nearest-last) → c.before.before.before.args.size / (c.before.before.power_of_two-unit.result * 2) ≤ c.before.before.before.args.size
halved c = div-le_self c.before.before.before.args.size (c.before.before.power_of_two-unit.result * 2)

last_small : (c : After-nearest-last) → c.nearest-last.result < 2 ^ 62
last_small c =
    let rest = c.before.before.before.args.size % (c.before.before.power_of_two-unit.result * 2) * c.before.power_of_ten-scale.result in
    omega (arith, c.nearest-last.ensures, nearest_at_most rest c.before.before.power_of_two-unit.result (unit c.before).0, small c.before)

pub nonzero_div-whole-2 : goal.nonzero_div-whole-2
nonzero_div-whole-2 c = (scale (goal.at.nonzero_div-whole-2 c).After-power_of_ten-scale).0

pub overflow_add-whole : goal.overflow_add-whole
overflow_add-whole c = omega (arith, halved (goal.at.overflow_add-whole c).After-nearest-last, last_small (goal.at.overflow_add-whole c).After-nearest-last, div-le_self c.nearest-last.result c.power_of_ten-scale.result)

pub nonzero_rem-fraction : goal.nonzero_rem-fraction
nonzero_rem-fraction c = (scale (goal.at.nonzero_rem-fraction c).After-power_of_ten-scale).0
