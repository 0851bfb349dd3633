-- 32 shifts of a wide register by a look-up for each of its four upper bytes.
-- Assumes nothing.
use mathlib.Core.Path.{◌≡◌, refl, sym, ap, ap₂, ◌∙◌, subst}
use mathlib.Core.Logic.{⊎_elim}
use Prim.Native.Nat.{ℕ, zero, suc, ◌+◌, ◌*◌, ◌/◌, ◌%◌, ◌^◌, ◌≤◌, ◌<◌, max}
use native.Mathlib.Nat.{eq-or-lt_of_le, mul_assoc, div-mul-le_self, lt_of_le_of_lt, lt_of_lt_of_le, mul-one, mod-lt, mod-eq_of_lt}
use native.Mathlib.Omega.{arith}
use lib.Dec.{lit<, lit≤}
use lib.Pow.{pow_pos, pow_mono, split, shl_lt, shr_lt, shr-shr, shl_exact}
use lib.Bits.{bit_xor, xor_comm, xor_shifted}
use Rattle.crc.specs.Check.{shift, shifts}
use Rattle.crc.specs.Wide.{wide_polynomial}
use Rattle.crc.proofs.Xor.{xor_assoc, xor_scale}
use Rattle.crc.proofs.Laws.{pow_join, shifted_mod, shifts_low, shifts_add, shifts_xor}

-- the eight shifts of a byte at the top
abbrev pub lookup : ℕ → ℕ
lookup x = shifts 64 wide_polynomial 8 (x * 2 ^ 56)

-- the greatest of the first n
unfoldable greatest : ℕ → ℕ
greatest zero = 0
greatest (suc n) = max (lookup n) (greatest n)

lookup_greatest : (n x : ℕ) → x < n → lookup x ≤ greatest n
unfolding greatest
lookup_greatest zero x h = absurd (omega arith)
lookup_greatest (suc n) x h =
    let l : x ≤ n = omega arith in
    ⊎_elim
    (λ e. let g : lookup x ≡ lookup n = ap lookup e in omega arith)
    (λ g. omega (arith, lookup_greatest n x g))
    (eq-or-lt_of_le l)

pub lookup_lt : (x : ℕ) → x < 2 ^ 8 → lookup x < 2 ^ 40
unfolding greatest shifts shift
lookup_lt x h = lt_of_le_of_lt (lookup_greatest 256 x h) (lit< tt)

wide : (n a b : ℕ) → a < 2 ^ 64 → b < 2 ^ 64
    → shifts 64 wide_polynomial n (bit_xor a b) ≡ bit_xor (shifts 64 wide_polynomial n a) (shifts 64 wide_polynomial n b)
wide = shifts_xor 64 wide_polynomial (lit≤ tt) (lit< tt)

-- 32 shifts take a byte that stands k bits above the lower half to the top, and what is looked up there k bits up
moved : (j k x : ℕ) → j + k ≡ 24 → x < 2 ^ 8 → shifts 64 wide_polynomial 32 (x * 2 ^ (32 + k)) ≡ lookup x * 2 ^ k
moved j k x e h =
    let all : 32 ≡ j + (8 + k) = omega arith in
    let up : x * 2 ^ (32 + k) * 2 ^ j ≡ x * 2 ^ 56 = mul_assoc x (2 ^ (32 + k)) (2 ^ j) ∙ ap (λ (n : ℕ). x * n) (pow_join (32 + k) j 56 (omega arith)) in
    let fits : x * 2 ^ (32 + k) * 2 ^ j < 2 ^ 64 = subst (λ (n : ℕ). n < 2 ^ 64) (sym up) (shl_lt 8 56 h) in
    let most : 40 + k ≤ 64 = omega arith in
    ap (λ (n : ℕ). shifts 64 wide_polynomial n (x * 2 ^ (32 + k))) all
    ∙ shifts_add 64 wide_polynomial (lit≤ tt) j (8 + k) (x * 2 ^ (32 + k))
    ∙ ap (shifts 64 wide_polynomial (8 + k)) (shifts_low 64 wide_polynomial (lit≤ tt) j (x * 2 ^ (32 + k)) fits ∙ up)
    ∙ shifts_add 64 wide_polynomial (lit≤ tt) 8 k (x * 2 ^ 56)
    ∙ shifts_low 64 wide_polynomial (lit≤ tt) k (lookup x) (lt_of_lt_of_le (shl_lt 40 k (lookup_lt x h)) (pow_mono most))

-- the lowest byte of what stands above the k low bits, and the rest, apart
apart : (k c : ℕ) → c / 2 ^ k * 2 ^ k ≡ bit_xor (c / 2 ^ k % 2 ^ 8 * 2 ^ k) (c / 2 ^ (k + 8) * 2 ^ (k + 8))
apart k c =
    let y : ℕ = c / 2 ^ k in
    let low : y % 2 ^ 8 < 2 ^ 8 = omega arith in
    let up : y / 2 ^ 8 * 2 ^ 8 * 2 ^ k ≡ c / 2 ^ (k + 8) * 2 ^ (k + 8) =
    mul_assoc (y / 2 ^ 8) (2 ^ 8) (2 ^ k) ∙ ap₂ (λ (a b : ℕ). a * b) (shr-shr c k 8) (pow_join 8 k (k + 8) (omega arith)) in
    ap (λ (n : ℕ). n * 2 ^ k)
    (sym (split y 8) ∙ sym (xor_shifted (y / 2 ^ 8) 8 (y % 2 ^ 8) low) ∙ xor_comm (y / 2 ^ 8 * 2 ^ 8) (y % 2 ^ 8))
    ∙ sym (xor_scale k (y % 2 ^ 8) (y / 2 ^ 8 * 2 ^ 8))
    ∙ ap (bit_xor (y % 2 ^ 8 * 2 ^ k)) up

module _ (c : ℕ) (hc : c < 2 ^ 64) where
  -- the byte of c that stands k bits up
  abbrev byte : ℕ → ℕ
  byte k = c / 2 ^ k % 2 ^ 8

  above : (k : ℕ) → c / 2 ^ k * 2 ^ k < 2 ^ 64
  above k = lt_of_le_of_lt (div-mul-le_self c (2 ^ k)) hc

  next : (j k : ℕ) → j + k ≡ 24 → byte (32 + k) * 2 ^ (32 + k) < 2 ^ 64
      → shifts 64 wide_polynomial 32 (c / 2 ^ (32 + k) * 2 ^ (32 + k))
      ≡ bit_xor (lookup (byte (32 + k)) * 2 ^ k) (shifts 64 wide_polynomial 32 (c / 2 ^ (32 + k + 8) * 2 ^ (32 + k + 8)))
  next j k e h =
      ap (shifts 64 wide_polynomial 32) (apart (32 + k) c)
      ∙ wide 32 (byte (32 + k) * 2 ^ (32 + k)) (c / 2 ^ (32 + k + 8) * 2 ^ (32 + k + 8)) h (above (32 + k + 8))
      ∙ ap (λ (n : ℕ). bit_xor n (shifts 64 wide_polynomial 32 (c / 2 ^ (32 + k + 8) * 2 ^ (32 + k + 8)))) (moved j k (byte (32 + k)) e (omega arith))

  whole : (j k : ℕ) → 40 + k ≤ 64 → lookup (byte j) * 2 ^ k % 2 ^ 64 ≡ lookup (byte j) * 2 ^ k
  whole j k h = shl_exact 40 k 64 (lookup_lt (byte j) (mod-lt (c / 2 ^ j) (pow_pos 8))) h

  pub four_lookups : shifts 64 wide_polynomial 32 c
      ≡ bit_xor (c * 2 ^ 32 % 2 ^ 64)
      (bit_xor (bit_xor (lookup (byte 32)) (lookup (byte 40) * 2 ^ 8 % 2 ^ 64)) (bit_xor (lookup (byte 48) * 2 ^ 16 % 2 ^ 64) (lookup (byte 56) * 2 ^ 24 % 2 ^ 64)))
  four_lookups =
      let low : c % 2 ^ 32 < 2 ^ 32 = mod-lt c (pow_pos 32) in
      let high : c / 2 ^ 56 < 2 ^ 8 = shr_lt 8 56 hc in
      let parts : c ≡ bit_xor (c / 2 ^ 32 * 2 ^ 32) (c % 2 ^ 32) = sym (xor_shifted (c / 2 ^ 32) 32 (c % 2 ^ 32) low ∙ split c 32) in
      let rest : shifts 64 wide_polynomial 32 (c % 2 ^ 32) ≡ c * 2 ^ 32 % 2 ^ 64 =
      shifts_low 64 wide_polynomial (lit≤ tt) 32 (c % 2 ^ 32) (shl_lt 32 32 low) ∙ sym (shifted_mod c 32 32) in
      let last : shifts 64 wide_polynomial 32 (c / 2 ^ 56 * 2 ^ 56) ≡ lookup (byte 56) * 2 ^ 24 =
      ap (λ (n : ℕ). shifts 64 wide_polynomial 32 (n * 2 ^ 56)) (sym (mod-eq_of_lt high)) ∙ moved 0 24 (byte 56) refl (omega arith) in
      ap (shifts 64 wide_polynomial 32) parts
      ∙ wide 32 (c / 2 ^ 32 * 2 ^ 32) (c % 2 ^ 32) (above 32) (omega arith)
      ∙ ap₂ bit_xor
      (next 24 0 refl (omega arith)
      ∙ ap₂ bit_xor (mul-one (lookup (byte 32)))
      (next 16 8 refl (omega arith) ∙ ap (bit_xor (lookup (byte 40) * 2 ^ 8)) (next 8 16 refl (omega arith) ∙ ap (bit_xor (lookup (byte 48) * 2 ^ 16)) last)))
      rest
      ∙ xor_comm (bit_xor (lookup (byte 32)) (bit_xor (lookup (byte 40) * 2 ^ 8) (bit_xor (lookup (byte 48) * 2 ^ 16) (lookup (byte 56) * 2 ^ 24)))) (c * 2 ^ 32 % 2 ^ 64)
      ∙ ap (bit_xor (c * 2 ^ 32 % 2 ^ 64))
      (sym (xor_assoc (lookup (byte 32)) (lookup (byte 40) * 2 ^ 8) (bit_xor (lookup (byte 48) * 2 ^ 16) (lookup (byte 56) * 2 ^ 24)))
      ∙ sym (ap₂ bit_xor (ap (bit_xor (lookup (byte 32))) (whole 40 8 (lit≤ tt))) (ap₂ bit_xor (whole 48 16 (lit≤ tt)) (whole 56 24 (lit≤ tt)))))
