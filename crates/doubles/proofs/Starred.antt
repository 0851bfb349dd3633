-- The starred bench cases of 01, each by computation. Assumes nothing.
use mathlib.Core.Path.{refl}
use lib.Ieee.{round, of_bits}
use Rattle.integers.proofs.BenchCases.{greatest, least, minus_one, past_the_top, half_way}
use Rattle.gaps.specs.Gaps.{elapsed, missed_after, missed_at}
use Rattle.motion.specs.Status.{unfit}
use Rattle.motion.specs.Totals.{difference}
use Rattle.doubles.specs.Doubles.{quotient}
use Rattle.doubles.specs.Starred.{Starred}

pub starred : Starred
unfolding difference missed_at elapsed missed_after quotient round of_bits unfit
starred = (greatest, least, minus_one, past_the_top, half_way, refl, refl, refl, refl, refl, refl, refl)
