-- Four bytes' step: they are added to the register, and 32 shifts follow; the same of a wide register.
-- Assumes nothing.
use mathlib.Core.Path.{◌≡◌, sym, ap, ◌∙◌, subst}
use mathlib.Core.List.{[], ◌∷◌}
use Prim.Native.Nat.{ℕ, ◌+◌, ◌-◌, ◌*◌, ◌^◌, ◌≤◌, ◌<◌}
use native.Mathlib.Nat.{mul-one, mul_assoc, mul-le-mul_left}
use native.Mathlib.Omega.{arith}
use lib.Dec.{lit<, lit≤}
use lib.Pow.{pow_pos}
use lib.Bits.{bit_xor, xor_lt, xor_shifted}
use mir.Syntax.{w32}
use Rattle.std.specs.Int.{from_be_bytes}
use Rattle.crc.specs.Check.{shifts, byte_step, register}
use Rattle.crc.proofs.Xor.{xor_assoc}
use Rattle.crc.specs.Wide.{wide_polynomial, remainder}
use Rattle.crc.proofs.Remainder.{remainder_lt, remainder_xor, remainder_low, remainder_shifts}
use Rattle.crc.proofs.Laws.{pow_join, byte_lt, shifts_low, shifts_add, shifts_xor}

module _ (w p : ℕ) (hw : 8 ≤ w) (hp : p < 2 ^ w) where
  -- a byte's step after n shifts is eight shifts more, with the byte added n bits below the top before all of them
  byte_step_after : (n j c x : ℕ) → j + n ≡ w - 8 → c < 2 ^ w → x < 2 ^ 8
      → byte_step w p (shifts w p n c) x ≡ shifts w p (n + 8) (bit_xor c (x * 2 ^ j))
  unfolding byte_step
  byte_step_after n j c x e hc hx =
      let m : x * 2 ^ j * 2 ^ n ≡ x * 2 ^ (w - 8) = mul_assoc x (2 ^ j) (2 ^ n) ∙ ap (λ (k : ℕ). x * k) (pow_join j n (w - 8) e) in
      let top : x * 2 ^ j * 2 ^ n < 2 ^ w = subst (λ (k : ℕ). k < 2 ^ w) (sym m) (byte_lt w p hw hp x hx) in
      let l : x * 2 ^ j * 1 ≤ x * 2 ^ j * 2 ^ n = mul-le-mul_left (x * 2 ^ j) (pow_pos n) in
      ap (shifts w p 8)
      (ap (bit_xor (shifts w p n c)) (sym (shifts_low w p hw n (x * 2 ^ j) top ∙ m))
      ∙ sym (shifts_xor w p hw hp n c (x * 2 ^ j) hc (omega arith)))
      ∙ sym (shifts_add w p hw n 8 (bit_xor c (x * 2 ^ j)))

-- the four bytes as a number
abbrev pub joined : ℕ → ℕ → ℕ → ℕ → ℕ
joined x1 x2 x3 x4 = from_be_bytes w32 (x1 ∷ x2 ∷ x3 ∷ x4 ∷ [])

module _ (x1 x2 x3 x4 : ℕ) (h1 : x1 < 2 ^ 8) (h2 : x2 < 2 ^ 8) (h3 : x3 < 2 ^ 8) (h4 : x4 < 2 ^ 8) where
  joined_exact : joined x1 x2 x3 x4 ≡ bit_xor (bit_xor (bit_xor (x1 * 2 ^ 24) (x2 * 2 ^ 16)) (x3 * 2 ^ 8)) x4
  joined_exact =
      let two : bit_xor (x1 * 2 ^ 24) (x2 * 2 ^ 16) ≡ (x1 * 2 ^ 8 + x2) * 2 ^ 16 = xor_shifted x1 24 (x2 * 2 ^ 16) (omega arith) ∙ omega arith in
      let three : bit_xor ((x1 * 2 ^ 8 + x2) * 2 ^ 16) (x3 * 2 ^ 8) ≡ ((x1 * 2 ^ 8 + x2) * 2 ^ 8 + x3) * 2 ^ 8 =
      xor_shifted (x1 * 2 ^ 8 + x2) 16 (x3 * 2 ^ 8) (omega arith) ∙ omega arith in
      let four : bit_xor (((x1 * 2 ^ 8 + x2) * 2 ^ 8 + x3) * 2 ^ 8) x4 ≡ joined x1 x2 x3 x4 =
      xor_shifted ((x1 * 2 ^ 8 + x2) * 2 ^ 8 + x3) 8 x4 (omega arith) ∙ omega arith in
      sym (ap (λ (n : ℕ). bit_xor (bit_xor n (x3 * 2 ^ 8)) x4) two ∙ ap (λ (n : ℕ). bit_xor n x4) three ∙ four)

  joined_lt : joined x1 x2 x3 x4 < 2 ^ 32
  joined_lt = omega arith

  register_four : (c : ℕ) → c < 2 ^ 32 → register 32 0x04C11DB7 c (x1 ∷ x2 ∷ x3 ∷ x4 ∷ []) ≡ shifts 32 0x04C11DB7 32 (bit_xor c (joined x1 x2 x3 x4))
  unfolding register byte_step
  register_four c hc =
      let c1 : ℕ = bit_xor c (x1 * 2 ^ 24) in
      let c2 : ℕ = bit_xor c1 (x2 * 2 ^ 16) in
      let c3 : ℕ = bit_xor c2 (x3 * 2 ^ 8) in
      let l1 : c1 < 2 ^ 32 = xor_lt 32 c (x1 * 2 ^ 24) hc (omega arith) in
      let l2 : c2 < 2 ^ 32 = xor_lt 32 c1 (x2 * 2 ^ 16) l1 (omega arith) in
      let l3 : c3 < 2 ^ 32 = xor_lt 32 c2 (x3 * 2 ^ 8) l2 (omega arith) in
      let e : bit_xor c3 (x4 * 2 ^ 0) ≡ bit_xor c (joined x1 x2 x3 x4) = rw joined_exact (simp (xor_assoc, mul-one)) in
      ap (λ (n : ℕ). byte_step 32 0x04C11DB7 (byte_step 32 0x04C11DB7 n x3) x4) (byte_step_after 32 0x04C11DB7 (lit≤ tt) (lit< tt) 8 16 c1 x2 (omega arith) l1 h2)
      ∙ ap (λ (n : ℕ). byte_step 32 0x04C11DB7 n x4) (byte_step_after 32 0x04C11DB7 (lit≤ tt) (lit< tt) 16 8 c2 x3 (omega arith) l2 h3)
      ∙ byte_step_after 32 0x04C11DB7 (lit≤ tt) (lit< tt) 24 0 c3 x4 (omega arith) l3 h4
      ∙ ap (shifts 32 0x04C11DB7 32) e

  pub wide_four : (c : ℕ) → c < 2 ^ 64
      → remainder (shifts 64 wide_polynomial 32 (bit_xor c (joined x1 x2 x3 x4))) ≡ register 32 0x04C11DB7 (remainder c) (x1 ∷ x2 ∷ x3 ∷ x4 ∷ [])
  wide_four c hc =
      let l : joined x1 x2 x3 x4 < 2 ^ 32 = joined_lt in
      let m : joined x1 x2 x3 x4 < 2 ^ 64 = omega arith in
      remainder_shifts 32 (bit_xor c (joined x1 x2 x3 x4)) (xor_lt 64 c (joined x1 x2 x3 x4) hc m)
      ∙ ap (shifts 32 0x04C11DB7 32)
      (remainder_xor c (joined x1 x2 x3 x4) hc m ∙ ap (bit_xor (remainder c)) (remainder_low (joined x1 x2 x3 x4) l))
      ∙ sym (register_four (remainder c) (remainder_lt c hc))
