-- The check (01, The check), over its parameters.
-- Below, w is the width and p the polynomial without its leading term, as a number; a register c is a number below 2 ^ w.
-- Assumes nothing.
use Rattle.std.specs.Prelude.{List, [], ◌∷◌, ◌++◌, ℕ, zero, suc, ◌-◌, ◌*◌, ◌/◌, ◌%◌, ◌^◌, length, replicate}
use Rattle.std.specs.Int.Bits.{bit_xor}

-- `multiple`: zero bytes bring what is checked to a multiple of so many bytes
pub record Parameters : Type 0 where
  pub width : ℕ
  pub polynomial : ℕ
  pub start : ℕ
  pub multiple : ℕ

-- the sensor's (001, 5.5.7)
unfoldable pub stim300 : Parameters
stim300 =
    record {
      width = 32;
      polynomial = 0x04C11DB7;
      start = 0xFFFFFFFF;
      multiple = 4;
    }

-- most significant bit first: the register is shifted left by one bit, and if the bit that leaves at the top is one, the polynomial is added (xor)
unfoldable pub shift : ℕ → ℕ → ℕ → ℕ
shift w p c = bit_xor (c * 2 % 2 ^ w) (c / 2 ^ (w - 1) * p)

unfoldable pub shifts : ℕ → ℕ → ℕ → ℕ → ℕ
shifts w p zero c = c
shifts w p (suc n) c = shifts w p n (shift w p c)

-- no reflection: a byte is added as it is to the top eight bits, and eight shifts follow
unfoldable pub byte_step : ℕ → ℕ → ℕ → ℕ → ℕ
byte_step w p c x = shifts w p 8 (bit_xor c (x * 2 ^ (w - 8)))

-- no final inversion: the register after the bytes, begun at c
unfoldable pub register : ℕ → ℕ → ℕ → List ℕ → ℕ
register w p c [] = c
register w p c (x ∷ s) = register w p (byte_step w p c x) s

-- the zero bytes that bring n bytes to a multiple of m; none for m = 1
unfoldable pub padding : ℕ → ℕ → List ℕ
padding m n = replicate ((m - n % m) % m) 0

-- the bytes that the check covers
unfoldable pub covered : ℕ → List ℕ → List ℕ
covered m s = s ++ padding m (length s)

unfoldable pub check_of : Parameters → List ℕ → ℕ
check_of p s = register p.width p.polynomial p.start (covered p.multiple s)

-- the check of the bytes that stand before it in a datagram
unfoldable pub check32 : List ℕ → ℕ
check32 s = check_of stim300 s

-- CRC-32/MPEG-2: the same without zero bytes; its check value is published
unfoldable pub mpeg2 : Parameters
mpeg2 =
    record {
      width = stim300.width;
      polynomial = stim300.polynomial;
      start = stim300.start;
      multiple = 1;
    }
