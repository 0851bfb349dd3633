-- The starred bench cases on the value of three bytes and on folding (01, Bench cases), by computation. Assumes nothing.
use mathlib.Core.Path.{◌≡◌, refl}
use mathlib.Core.List.{[], ◌∷◌}
use lib.IntN.{pos, negsuc, ◌-ℤ◌}
use Rattle.integers.specs.Bytes.{big_endian, twos_complement, signed_bytes}
use Rattle.integers.specs.Folding.{fold}

pub greatest : signed_bytes (0x7F ∷ 0xFF ∷ 0xFF ∷ []) ≡ pos 8388607
unfolding signed_bytes big_endian twos_complement
greatest = refl

pub least : signed_bytes (0x80 ∷ 0x00 ∷ 0x00 ∷ []) ≡ negsuc 8388607
unfolding signed_bytes big_endian twos_complement
least = refl

pub minus_one : signed_bytes (0xFF ∷ 0xFF ∷ 0xFF ∷ []) ≡ negsuc 0
unfolding signed_bytes big_endian twos_complement
minus_one = refl

-- 8388600 to -8388600 adds 16
pub past_the_top : fold (negsuc 8388599 -ℤ pos 8388600) ≡ pos 16
unfolding fold twos_complement
past_the_top = refl

-- 0 to -8388608 adds -8388608
pub half_way : fold (negsuc 8388607 -ℤ pos 0) ≡ negsuc 8388607
unfolding fold twos_complement
half_way = refl
