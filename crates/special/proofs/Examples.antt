-- A datagram of each kind by computation; and what is none: another ending than the identifier fixes, another check, one without the zero bytes.
use Prim.Native.Nat.{ℕ}
use mathlib.Core.Bool.{true, false}
use mathlib.Core.List.{List, [], ◌∷◌, ◌++◌}
use mathlib.Core.Path.{◌≡◌, refl}
use Rattle.integers.specs.Bytes.{big_endian}
use Rattle.crc.specs.Check.{stim300, shift, shifts, byte_step, register, padding, covered, check_of}
use Rattle.special.specs.Special.{entry_at, is_of, is_special}

abbrev line_end : List ℕ
line_end = 0x0D ∷ 0x0A ∷ []

-- a part number, 0xB3: with the ending
abbrev part_number : List ℕ
part_number =
    0xB3 ∷ 0x08 ∷ 0x41 ∷ 0x67 ∷ 0x2D ∷ 0x00 ∷ 0x01 ∷ 0x23 ∷ 0x2D ∷ 0x45 ∷ 0x60 ∷ 0x00 ∷ 0x00 ∷ 0x00 ∷ 0x00 ∷ 0x41 ∷ 0x3D ∷ 0xDA ∷ 0xF4 ∷ 0xC6 ∷
    []

pub part_number_lem : is_special (part_number ++ line_end) ≡ true
unfolding entry_at is_special is_of big_endian check_of stim300 covered padding register byte_step shifts shift
part_number_lem = refl

-- and not without it, or with another
pub part_number_without : is_special part_number ≡ false
unfolding entry_at is_special is_of big_endian check_of stim300 covered padding register byte_step shifts shift
part_number_without = refl

pub part_number_reversed : is_special (part_number ++ 0x0A ∷ 0x0D ∷ []) ≡ false
unfolding entry_at is_special is_of big_endian check_of stim300 covered padding register byte_step shifts shift
part_number_reversed = refl

-- nor with another last byte of the check
abbrev wrong_check : List ℕ
wrong_check =
    0xB3 ∷ 0x08 ∷ 0x41 ∷ 0x67 ∷ 0x2D ∷ 0x00 ∷ 0x01 ∷ 0x23 ∷ 0x2D ∷ 0x45 ∷ 0x60 ∷ 0x00 ∷ 0x00 ∷ 0x00 ∷ 0x00 ∷ 0x41 ∷ 0x3D ∷ 0xDA ∷ 0xF4 ∷ 0xC7 ∷
    []

pub part_number_wrong : is_special (wrong_check ++ line_end) ≡ false
unfolding entry_at is_special is_of big_endian check_of stim300 covered padding register byte_step shifts shift
part_number_wrong = refl

-- 0xB1: without the ending
abbrev plain_number : List ℕ
plain_number =
    0xB1 ∷ 0x08 ∷ 0x41 ∷ 0x67 ∷ 0x2D ∷ 0x00 ∷ 0x01 ∷ 0x23 ∷ 0x2D ∷ 0x45 ∷ 0x60 ∷ 0x00 ∷ 0x00 ∷ 0x00 ∷ 0x00 ∷ 0x41 ∷ 0x62 ∷ 0xB5 ∷ 0x8A ∷ 0xB2 ∷
    []

pub plain_number_lem : is_special plain_number ≡ true
unfolding entry_at is_special is_of big_endian check_of stim300 covered padding register byte_step shifts shift
plain_number_lem = refl

-- and not with it
pub plain_number_with : is_special (plain_number ++ line_end) ≡ false
unfolding entry_at is_special is_of big_endian check_of stim300 covered padding register byte_step shifts shift
plain_number_with = refl

-- a serial number
abbrev serial_number : List ℕ
serial_number =
    0xB5 ∷ 0x4E ∷ 0x25 ∷ 0x58 ∷ 0x12 ∷ 0x34 ∷ 0x56 ∷ 0x78 ∷ 0x90 ∷ 0x00 ∷ 0x00 ∷ 0x00 ∷ 0x00 ∷ 0x00 ∷ 0x00 ∷ 0x00 ∷ 0xAF ∷ 0x98 ∷ 0x29 ∷ 0x84 ∷
    []

pub serial_number_lem : is_special serial_number ≡ true
unfolding entry_at is_special is_of big_endian check_of stim300 covered padding register byte_step shifts shift
serial_number_lem = refl

-- a configuration
abbrev configured : List ℕ
configured =
    0xBC ∷ 0x2D ∷ 0x14 ∷ 0x6E ∷ 0x30 ∷ 0x70 ∷ 0x44 ∷ 0x40 ∷ 0x70 ∷ 0x44 ∷ 0x40 ∷ 0x70 ∷ 0x44 ∷ 0x40 ∷ 0x40 ∷ 0x00 ∷ 0x00 ∷ 0x00 ∷ 0x00 ∷ 0x00 ∷
    0x00 ∷ 0x02 ∷ 0x4A ∷ 0x9B ∷ 0xDE ∷ 0x10 ∷
    []

pub configuration : is_special configured ≡ true
unfolding entry_at is_special is_of big_endian check_of stim300 covered padding register byte_step shifts shift
configuration = refl

-- a bias trim datagram
abbrev bias_trim : List ℕ
bias_trim =
    0xD1 ∷ 0x01 ∷ 0x02 ∷ 0x03 ∷ 0x04 ∷ 0x05 ∷ 0x06 ∷ 0x07 ∷ 0x08 ∷ 0x09 ∷ 0x0A ∷ 0x0B ∷ 0x0C ∷ 0x0D ∷ 0x0E ∷ 0x0F ∷ 0x10 ∷ 0x11 ∷ 0x12 ∷ 0x13 ∷
    0x14 ∷ 0x15 ∷ 0x16 ∷ 0x17 ∷ 0x18 ∷ 0x19 ∷ 0x1A ∷ 0x1B ∷ 0x20 ∷ 0x26 ∷ 0x11 ∷ 0x17 ∷ 0x27 ∷ 0x0F ∷ 0x00 ∷ 0x00 ∷ 0xD4 ∷ 0xB8 ∷ 0x7A ∷ 0x53 ∷
    []

pub bias_trim_lem : is_special bias_trim ≡ true
unfolding entry_at is_special is_of big_endian check_of stim300 covered padding register byte_step shifts shift
bias_trim_lem = refl

-- an extended error: 17 bytes stand before the check, so it covers three zero bytes too
abbrev extended_error : List ℕ
extended_error =
    0xBE ∷ 0x00 ∷ 0x00 ∷ 0x00 ∷ 0x00 ∷ 0x00 ∷ 0x00 ∷ 0x00 ∷ 0x00 ∷ 0x00 ∷ 0x00 ∷ 0x00 ∷ 0x00 ∷ 0x00 ∷ 0x00 ∷ 0x80 ∷ 0x01 ∷ 0x36 ∷ 0x65 ∷ 0x01 ∷
    0x9A ∷
    []

pub extended_error_lem : is_special extended_error ≡ true
unfolding entry_at is_special is_of big_endian check_of stim300 covered padding register byte_step shifts shift
extended_error_lem = refl

-- the check of the 17 bytes alone is wrong
abbrev unpadded : List ℕ
unpadded =
    0xBE ∷ 0x00 ∷ 0x00 ∷ 0x00 ∷ 0x00 ∷ 0x00 ∷ 0x00 ∷ 0x00 ∷ 0x00 ∷ 0x00 ∷ 0x00 ∷ 0x00 ∷ 0x00 ∷ 0x00 ∷ 0x00 ∷ 0x80 ∷ 0x01 ∷ 0x42 ∷ 0x8B ∷ 0x9D ∷
    0x2D ∷
    []

pub extended_error_unpadded : is_special unpadded ≡ false
unfolding entry_at is_special is_of big_endian check_of stim300 covered padding register byte_step shifts shift
extended_error_unpadded = refl
