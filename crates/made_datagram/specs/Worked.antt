-- A datagram byte by byte (01, Layout by identifier; The check): identifier AF, which carries every part, with termination 1, and no value twice.
-- The bytes are those of another program.
use Rattle.std.specs.Prelude.{ℕ, List, [], ◌∷◌, ◌≡◌, ℤ, pos, negsuc}
use Rattle.setup.specs.declared.Setup.{Setup}
use Rattle.made_datagram.specs.Making.{made_datagram}
use Rattle.made_datagram.specs.declared.Values.{Values}

abbrev pub worked_setup : Setup
worked_setup = record { rate = 500; identifier = 0xAF; termination = 1; units = 3 ∷ 2 ∷ 1 ∷ []; shifts = 21 ∷ 19 ∷ 25 ∷ [] }

abbrev pub worked_readings : List (List ℤ)
worked_readings =
    (negsuc 8388607 ∷ pos 8388607 ∷ negsuc 1193045 ∷ []) ∷
    (pos 65536 ∷ negsuc 65536 ∷ pos 4660 ∷ []) ∷
    (negsuc 1 ∷ pos 1 ∷ pos 7654321 ∷ []) ∷
    []

abbrev pub worked_values : Values
worked_values =
    record {
      statuses = pos 17 ∷ pos 34 ∷ pos 51 ∷ [];
      gyro_temperatures = negsuc 32767 ∷ pos 32767 ∷ negsuc 4659 ∷ [];
      accelerometer_temperatures = pos 256 ∷ negsuc 256 ∷ pos 22136 ∷ [];
      inclinometer_temperatures = negsuc 2 ∷ pos 2 ∷ pos 12345 ∷ [];
      temperature_statuses = pos 68 ∷ pos 85 ∷ pos 102 ∷ [];
      aux = negsuc 7340032;
      aux_status = pos 119;
      counter = pos 201;
      latency = pos 51966;
    }

-- the identifier; gyro, accelerometer and inclinometer; their temperatures; AUX; counter; latency; the check; the ending
abbrev pub worked_bytes : List ℕ
worked_bytes =
    0xAF ∷
    0x80 ∷ 0x00 ∷ 0x00 ∷ 0x7F ∷ 0xFF ∷ 0xFF ∷ 0xED ∷ 0xCB ∷ 0xAA ∷ 0x11 ∷
    0x01 ∷ 0x00 ∷ 0x00 ∷ 0xFE ∷ 0xFF ∷ 0xFF ∷ 0x00 ∷ 0x12 ∷ 0x34 ∷ 0x22 ∷
    0xFF ∷ 0xFF ∷ 0xFE ∷ 0x00 ∷ 0x00 ∷ 0x01 ∷ 0x74 ∷ 0xCB ∷ 0xB1 ∷ 0x33 ∷
    0x80 ∷ 0x00 ∷ 0x7F ∷ 0xFF ∷ 0xED ∷ 0xCC ∷ 0x44 ∷
    0x01 ∷ 0x00 ∷ 0xFE ∷ 0xFF ∷ 0x56 ∷ 0x78 ∷ 0x55 ∷
    0xFF ∷ 0xFD ∷ 0x00 ∷ 0x02 ∷ 0x30 ∷ 0x39 ∷ 0x66 ∷
    0x8F ∷ 0xFF ∷ 0xFF ∷ 0x77 ∷
    0xC9 ∷
    0xCA ∷ 0xFE ∷
    0x36 ∷ 0xBB ∷ 0xC5 ∷ 0x36 ∷
    0x0D ∷ 0x0A ∷
    []

-- that is what is written
abbrev pub Worked : Type 0
Worked = made_datagram worked_setup worked_readings worked_values ≡ worked_bytes
