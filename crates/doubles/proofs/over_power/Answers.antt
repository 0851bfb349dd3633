use mir.Syntax.{w64}
use mir.ValLaws.{to_z-of_z}
use Rattle.doubles.specs.Doubles.{known_shift}
use Rattle.doubles.proofs.Doubles.{computed, shift_small}
use Rattle.doubles.proofs.over_power.Goals as goal

pub returns : goal.returns
returns c =
    let shift = c.args.shift in
    rw (to_z-of_z w64 c.args.n c.ranges.n, c.power.ensures) (computed c.args.n (known_shift shift) c.requires (shift_small shift))
