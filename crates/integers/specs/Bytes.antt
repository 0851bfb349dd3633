-- The values of bytes (01, Layout by identifier): the most significant byte comes first, readings are two's complement.
use Rattle.std.specs.Prelude.{ℕ, zero, suc, ◌+◌, ◌*◌, ◌/◌, ◌%◌, ◌^◌, ◌<◌, Bool, true, cond, ◌&&◌, List, [], ◌∷◌, ◌++◌, ltb, ℤ, pos, ◌-ℤ◌, length, get_or}
use Rattle.integers.specs.Rounding.{residue}

-- every element is a byte
pub record AllBytes (bs : List ℕ) : Type 0 where
  pub each : (i : ℕ) → get_or bs i 0 < 256

-- the same as a test
unfoldable pub are_bytes : List ℕ → Bool
are_bytes [] = true
are_bytes (b ∷ bs) = ltb b 256 && are_bytes bs

-- lists of bytes, one behind the other
abbrev pub joined : List (List ℕ) → List ℕ
joined [] = []
joined (p ∷ ps) = p ++ joined ps

-- the value of bytes as an unsigned number
unfoldable pub big_endian : List ℕ → ℕ
big_endian [] = 0
big_endian (b ∷ bs) = b * 2 ^ (8 * length bs) + big_endian bs

-- the number that n stands for in two's complement of that many bits, for an n below 2 ^ width: n in the lower half, n - 2 ^ width in the upper
unfoldable pub twos_complement : ℕ → ℕ → ℤ
twos_complement width n = cond (ltb (2 * n) (2 ^ width)) (pos n) (pos n -ℤ pos (2 ^ width))

-- the value of bytes as a two's complement number, whatever their number
unfoldable pub signed_bytes : List ℕ → ℤ
signed_bytes bs = twos_complement (8 * length bs) (big_endian bs)

-- a number in so many bytes, the most significant first
unfoldable pub in_bytes : ℕ → ℕ → List ℕ
in_bytes zero n = []
in_bytes (suc w) n = n / 2 ^ (8 * w) % 256 ∷ in_bytes w n

-- how the bytes of a field are read: in two's complement, or as an unsigned number
pub data Sign : Type 0 where
  signed unsigned : Sign

-- the whole number that the bytes of a field stand for
abbrev pub value_of : Sign → List ℕ → ℤ
value_of signed bs = signed_bytes bs
value_of unsigned bs = pos (big_endian bs)

-- a whole number written into a field of so many bytes: a negative one in two's complement
unfoldable pub value_bytes : ℕ → ℤ → List ℕ
value_bytes w z = in_bytes w (residue z (2 ^ (8 * w)))
