-- The check a bit at a time: a second definition, which agrees with the first (proofs/SerialLaws.antt).
-- Assumes nothing.
use Rattle.std.specs.Prelude.{List, [], ◌∷◌, ℕ, zero, suc, ◌-◌, ◌*◌, ◌/◌, ◌%◌, ◌^◌}
use Rattle.std.specs.Int.Bits.{bit_xor}
use Rattle.crc.specs.Check.{Parameters, covered}

-- one bit of the message: it is added to the bit that leaves the register at the top, and if the sum is one, the polynomial is added
unfoldable pub bit_step : ℕ → ℕ → ℕ → ℕ → ℕ
bit_step w p c b = bit_xor (c * 2 % 2 ^ w) (bit_xor (c / 2 ^ (w - 1)) b * p)

-- the n low bits of x, the most significant first
unfoldable pub bits_step : ℕ → ℕ → ℕ → ℕ → ℕ → ℕ
bits_step w p zero c x = c
bits_step w p (suc n) c x = bits_step w p n (bit_step w p c (x / 2 ^ n % 2)) x

-- the register after the bits of the bytes, begun at c
unfoldable pub serial : ℕ → ℕ → ℕ → List ℕ → ℕ
serial w p c [] = c
serial w p c (x ∷ s) = serial w p (bits_step w p 8 c x) s

unfoldable pub serial_of : Parameters → List ℕ → ℕ
serial_of p s = serial p.width p.polynomial p.start (covered p.multiple s)
