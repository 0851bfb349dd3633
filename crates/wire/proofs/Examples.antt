-- Datagrams as the definitions compute them.
use Prim.Native.Nat.{ℕ}
use mathlib.Core.List.{List, [], ◌∷◌}
use mathlib.Core.Path.{◌≡◌, refl}
use lib.IntN.{pos}
use Rattle.integers.specs.Bytes.{big_endian, twos_complement, signed_bytes}
use Rattle.setup.specs.Layout.{parts_of, parts_at}
use Rattle.wire.specs.Fields.{fields_of_part, fields_of}
use Rattle.wire.proofs.FieldBytes.{zero_axes}

-- the first datagram of 01, The text line: gyro X 8388600, counter 2
abbrev pub first : List ℕ
first =
    0x90 ∷ 0x7F ∷ 0xFF ∷ 0xF8 ∷ 0x00 ∷ 0x00 ∷ 0x00 ∷ 0x00 ∷ 0x00 ∷ 0x00 ∷ 0x00 ∷ 0x02 ∷ 0x00 ∷ 0x00 ∷ 0x87 ∷ 0xD2 ∷ 0xD9 ∷ 0xF9 ∷ []

pub first_fields : fields_of 0x90 first
    ≡ record {
      readings = (pos 8388600 ∷ pos 0 ∷ pos 0 ∷ []) ∷ zero_axes ∷ zero_axes ∷ [];
      statuses = 0 ∷ 0 ∷ 0 ∷ [];
      temperatures = zero_axes ∷ zero_axes ∷ zero_axes ∷ [];
      temperature_statuses = 0 ∷ 0 ∷ 0 ∷ [];
      aux = pos 0;
      aux_status = 0;
      counter = 2;
      latency = 0;
    }
unfolding fields_of fields_of_part parts_at parts_of signed_bytes twos_complement big_endian
first_fields = refl

-- acceleration X is 1, and the gyro status in front of it, with all bits set, is no part of it
abbrev second : List ℕ
second =
    0x91 ∷ 0x00 ∷ 0x00 ∷ 0x00 ∷ 0x00 ∷ 0x00 ∷ 0x00 ∷ 0x00 ∷ 0x00 ∷ 0x00 ∷ 0xFF ∷ 0x00 ∷ 0x00 ∷ 0x01 ∷ 0x00 ∷ 0x00 ∷ 0x00 ∷ 0x00 ∷ 0x00 ∷ 0x00 ∷ 0x00 ∷
    0x02 ∷ 0x00 ∷ 0x00 ∷ []

pub status_apart : ((fields_of 0x91 second).readings ≡ zero_axes ∷ (pos 1 ∷ pos 0 ∷ pos 0 ∷ []) ∷ zero_axes ∷ [])
    × ((fields_of 0x91 second).statuses ≡ 0xFF ∷ 0 ∷ 0 ∷ [])
unfolding fields_of fields_of_part parts_at parts_of signed_bytes twos_complement big_endian
status_apart = (refl, refl)
