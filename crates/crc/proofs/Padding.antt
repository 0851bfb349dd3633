-- The zero bytes at the end: how many they are, and that a list with them reads as the list past its end.
-- Assumes nothing.
use mathlib.Core.Path.{◌≡◌, refl}
use mathlib.Core.List.{List, append-nil}
use Prim.Native.Nat.{ℕ, zero, suc, ◌+◌, ◌-◌, ◌*◌, ◌/◌, ◌%◌, ◌<◌}
use native.Mathlib.Nat.{add-zero, suc-mul, div-add-mod', mod-lt, mod_self, mod-eq_of_lt, mul-mod_left}
use native.Mathlib.Omega.{arith}
use lib.ListN.{length, get_or, length-append, length-replicate}
use Rattle.integers.specs.Bytes.{AllBytes}
use Rattle.integers.proofs.Buffers.{zeros_behind_at}
use Rattle.crc.specs.Check.{padding, covered}

-- fewer than the multiple
pub padding_few : (m n : ℕ) → 0 < m → length (padding m n) < m
unfolding padding
padding_few m n h = rw length-replicate (mod-lt (m - n % m) h)

pub length_covered : (m : ℕ) (s : List ℕ) → length (covered m s) ≡ length s + (m - length s % m) % m
unfolding covered padding
length_covered m s = simp (length-append, length-replicate) (omega arith)

-- and they bring the bytes to a multiple
pub covered_multiple : (m : ℕ) (s : List ℕ) → 0 < m → length (covered m s) % m ≡ 0
covered_multiple m s h = rw length_covered (by (length s % m) refl)
  where
    n : ℕ
    n = length s

    by : (r : ℕ) → n % m ≡ r → (n + (m - n % m) % m) % m ≡ 0
    by zero e =
        let k : m - n % m ≡ m = omega arith in
        rw (k, mod_self m, add-zero) e
    by (suc r) e =
        let l : n % m < m = mod-lt n h in
        let g : (m - n % m) % m ≡ m - n % m = mod-eq_of_lt (omega arith) in
        let f : n + (m - n % m) ≡ suc (n / m) * m = omega (arith, suc-mul (n / m) m, div-add-mod' n m) in
        rw (g, f) (mul-mod_left (suc (n / m)) m)

-- a multiple of 1 asks for none
pub covered_one : (s : List ℕ) → covered 1 s ≡ s
unfolding covered padding
covered_one s =
    let z : (1 - length s % 1) % 1 ≡ 0 = omega arith in
    simp (z, append-nil)

pub covered_at : (m : ℕ) (s : List ℕ) (j : ℕ) → get_or (covered m s) j 0 ≡ get_or s j 0
unfolding covered padding
covered_at m s j = zeros_behind_at s ((m - length s % m) % m) j

pub covered_bytes : (m : ℕ) (s : List ℕ) → AllBytes s → AllBytes (covered m s)
covered_bytes m s h = record { each = λ i. rw covered_at (h.each i) }
