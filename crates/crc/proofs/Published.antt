-- The check of the digits 1 to 9 in ASCII, as antt computes it from the definitions.
-- Assumes nothing.
use mathlib.Core.Path.{◌≡◌, refl}
use mathlib.Core.List.{List, [], ◌∷◌}
use Prim.Native.Nat.{ℕ}
use Rattle.crc.specs.Check.{stim300, shift, shifts, byte_step, register, padding, covered, check_of, check32, mpeg2}

abbrev digits : List ℕ
digits = 0x31 ∷ 0x32 ∷ 0x33 ∷ 0x34 ∷ 0x35 ∷ 0x36 ∷ 0x37 ∷ 0x38 ∷ 0x39 ∷ []

-- the published check value of CRC-32/MPEG-2
mpeg2_digits : check_of mpeg2 digits ≡ 0x0376E6E7
unfolding check_of mpeg2 stim300 covered padding register byte_step shifts shift
mpeg2_digits = refl

-- with the three zero bytes that bring them to 12
check32_digits : check32 digits ≡ 0xAE24E09D
unfolding check32 check_of stim300 covered padding register byte_step shifts shift
check32_digits = refl
