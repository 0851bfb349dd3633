-- Tests of a whole number, as the refusals make them (01, What is turned down, 10 and 13; 02, 2.1, 15; 2.6, 18).
use Rattle.std.specs.Prelude.{ℕ, ◌-◌, ◌*◌, ◌^◌, Bool, ◌&&◌, eqb, leb, ℤ, pos, negsuc, nat_abs}
use Rattle.std.specs.Int.Signed.{le_z}
use Rattle.integers.specs.Bytes.{Sign, signed, unsigned}

-- z is 0
abbrev pub is_zero : ℤ → Bool
is_zero z = eqb (nat_abs z) 0

-- z is at most limit in size
abbrev pub within : ℕ → ℤ → Bool
within limit z = leb (nat_abs z) limit

-- z is in the 24 bits of a reading, -8388608 .. 8388607
abbrev pub in_reading : ℤ → Bool
in_reading z = le_z (negsuc 8388607) z && le_z z (pos 8388607)

-- the least and the greatest value of a field of w bytes: -2^(8w - 1) and 2^(8w - 1) - 1 in two's complement, 0 and 2^(8w) - 1 unsigned
abbrev pub least : Sign → ℕ → ℤ
least signed w = negsuc (2 ^ (8 * w - 1) - 1)
least unsigned w = pos 0

abbrev pub greatest : Sign → ℕ → ℤ
greatest signed w = pos (2 ^ (8 * w - 1) - 1)
greatest unsigned w = pos (2 ^ (8 * w) - 1)

-- z is in the width of such a field
unfoldable pub fits : Sign → ℕ → ℤ → Bool
fits s w z = le_z (least s w) z && le_z z (greatest s w)
