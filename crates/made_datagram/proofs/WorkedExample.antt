-- The worked datagram, by computation.
use mathlib.Core.Path.{refl}
use Rattle.integers.specs.Bytes.{in_bytes, value_bytes}
use Rattle.crc.specs.Check.{stim300, shift, shifts, byte_step, register, padding, covered, check_of}
use Rattle.setup.specs.Layout.{parts_of, row_at}
use Rattle.acceptance.specs.Acceptable.{completed}
use Rattle.made_datagram.specs.Making.{given, parts_with, datagram_in, made_datagram}
use Rattle.made_datagram.specs.Worked.{Worked}

pub worked : Worked
unfolding made_datagram datagram_in completed parts_with given value_bytes in_bytes parts_of row_at stim300 check_of covered padding register byte_step shifts shift
worked = refl
