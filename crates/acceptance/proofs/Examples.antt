-- A datagram whose acceptance the definitions compute.
use mathlib.Core.Bool.{true}
use mathlib.Core.List.{[], ◌∷◌}
use mathlib.Core.Path.{◌≡◌, refl}
use Rattle.integers.specs.Bytes.{big_endian}
use Rattle.crc.specs.Check.{stim300, shift, shifts, byte_step, register, padding, covered, check_of, check32}
use Rattle.setup.specs.Layout.{parts_of, row_at}
use Rattle.setup.specs.declared.Setup.{Setup}
use Rattle.wire.proofs.Examples.{first}
use Rattle.acceptance.specs.Acceptable.{check_right, ending_right, acceptable_in, acceptable}

abbrev example_setup : Setup
example_setup = record { rate = 1000; identifier = 0x90; termination = 0; units = 3 ∷ 0 ∷ 0 ∷ []; shifts = 21 ∷ 0 ∷ 0 ∷ [] }

pub first_acceptable : acceptable example_setup first ≡ true
unfolding
    acceptable acceptable_in check_right ending_right row_at parts_of big_endian check32 check_of stim300 covered padding register byte_step shifts shift
first_acceptable = refl
