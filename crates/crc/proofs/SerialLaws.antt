-- The check a bit at a time is the check.
-- Assumes nothing.
use mathlib.Core.Path.{◌≡◌, refl, sym, ap, ap₂, ◌∙◌, subst}
use mathlib.Core.List.{List, [], ◌∷◌}
use Prim.Native.Nat.{ℕ, zero, suc, ◌-◌, ◌*◌, ◌/◌, ◌%◌, ◌^◌, ◌≤◌, ◌<◌}
use native.Mathlib.Nat.{mod-lt, mod-one, mod-eq_of_lt, mul-div_cancel, mul-mod_left, mul_assoc, zero-mul, mul-lt-mul_of_pos_right}
use native.Mathlib.Numerals.{one-add}
use native.Mathlib.Omega.{arith}
use lib.Pow.{pow_pos, mod-pow-add}
use lib.Bits.{bit_xor, xor_lt, xor_zero_r, xor_shifted}
use Rattle.integers.specs.Bytes.{AllBytes}
use Rattle.integers.proofs.Bytes.{bytes_tail}
use Rattle.crc.specs.Check.{Parameters, stim300, shift, shifts, byte_step, register, covered, check_of, check32}
use Rattle.crc.specs.Serial.{bit_step, bits_step, serial, serial_of}
use Rattle.crc.proofs.Xor.{xor_assoc, xor_scale, xor_choice}
use Rattle.crc.proofs.Laws.{pow_join, top_lt, shift_xor, shift_low, shift_lt, byte_step_lt}
use Rattle.crc.proofs.Padding.{covered_bytes}
use Rattle.crc.proofs.Checks.{Sound, stim300_sound}

module _ (w p : ℕ) (hw : 8 ≤ w) (hp : p < 2 ^ w) where
  top_mul : (b : ℕ) → b * 2 ^ (w - 1) * 2 ≡ b * 2 ^ w
  top_mul b = mul_assoc b (2 ^ (w - 1)) 2 ∙ ap (λ (n : ℕ). b * n) (pow_join (w - 1) 1 w (omega arith))

  top_bound : (b : ℕ) → b < 2 → b * 2 ^ (w - 1) < 2 ^ w
  top_bound b h = omega (arith, mul-lt-mul_of_pos_right h (pow_pos (w - 1)), pow_join (w - 1) 1 w (omega arith))

  -- a bit at the top of the register brings the polynomial
  shift_top : (b : ℕ) → shift w p (b * 2 ^ (w - 1)) ≡ b * p
  unfolding shift
  shift_top b =
      ap₂ bit_xor
      (ap (λ (n : ℕ). n % 2 ^ w) (top_mul b) ∙ mul-mod_left b (2 ^ w))
      (ap (λ (n : ℕ). n * p) (mul-div_cancel b (pow_pos (w - 1))))

  shift_bit : (c b : ℕ) → c < 2 ^ w → b < 2 → shift w p (bit_xor c (b * 2 ^ (w - 1))) ≡ bit_step w p c b
  unfolding shift bit_step
  shift_bit c b hc hb =
      shift_xor w p hw c (b * 2 ^ (w - 1)) hc (top_bound b hb)
      ∙ ap (bit_xor (shift w p c)) (shift_top b)
      ∙ xor_assoc (c * 2 % 2 ^ w) (c / 2 ^ (w - 1) * p) (b * p)
      ∙ ap (bit_xor (c * 2 % 2 ^ w)) (xor_choice p (c / 2 ^ (w - 1)) b (top_lt w p hw c hc) hb)

  bit_step_lt : (c b : ℕ) → c < 2 ^ w → b < 2 → bit_step w p c b < 2 ^ w
  bit_step_lt c b hc hb =
      subst (λ (n : ℕ). n < 2 ^ w) (shift_bit c b hc hb)
      (shift_lt w p hw hp (bit_xor c (b * 2 ^ (w - 1))) (xor_lt w c (b * 2 ^ (w - 1)) hc (top_bound b hb)))

  -- the n low bits of x, one after the other, are n shifts after they were added to the top n bits
  bits_shifts : (n c x : ℕ) → n ≤ w → c < 2 ^ w → bits_step w p n c x ≡ shifts w p n (bit_xor c (x % 2 ^ n * 2 ^ (w - n)))
  unfolding bits_step shifts
  bits_shifts zero c x hn hc =
      sym (ap (bit_xor c) (ap (λ (m : ℕ). m * 2 ^ (w - 0)) (mod-one x) ∙ zero-mul (2 ^ (w - 0))) ∙ xor_zero_r c)
  bits_shifts (suc n) c x hn hc =
      let b : ℕ = x / 2 ^ n % 2 in
      let lo : ℕ = x % 2 ^ n in
      let hb : b < 2 = mod-lt (x / 2 ^ n) (pow_pos 1) in
      let hl : lo < 2 ^ n = mod-lt x (pow_pos n) in
      let e : x % 2 ^ suc n ≡ bit_xor (b * 2 ^ n) lo =
      ap (λ (m : ℕ). x % 2 ^ m) (sym (one-add n)) ∙ mod-pow-add x 1 n ∙ sym (xor_shifted b n lo hl) in
      let d : b * 2 ^ n * 2 ^ (w - suc n) ≡ b * 2 ^ (w - 1) =
      mul_assoc b (2 ^ n) (2 ^ (w - suc n)) ∙ ap (λ (m : ℕ). b * m) (pow_join n (w - suc n) (w - 1) (omega arith)) in
      let l2 : lo * 2 ^ (w - suc n) * 2 ≡ lo * 2 ^ (w - n) =
      mul_assoc lo (2 ^ (w - suc n)) 2 ∙ ap (λ (m : ℕ). lo * m) (pow_join (w - suc n) 1 (w - n) (omega arith)) in
      let hl2 : lo * 2 ^ (w - n) < 2 ^ w =
      subst (λ (m : ℕ). lo * 2 ^ (w - n) < m) (pow_join n (w - n) w (omega arith)) (mul-lt-mul_of_pos_right hl (pow_pos (w - n))) in
      let hl1 : lo * 2 ^ (w - suc n) * 2 < 2 ^ w = subst (λ (m : ℕ). m < 2 ^ w) (sym l2) hl2 in
      let g : bit_xor c (x % 2 ^ suc n * 2 ^ (w - suc n)) ≡ bit_xor (bit_xor c (b * 2 ^ (w - 1))) (lo * 2 ^ (w - suc n)) =
      ap (bit_xor c)
      (ap (λ (m : ℕ). m * 2 ^ (w - suc n)) e ∙ sym (xor_scale (w - suc n) (b * 2 ^ n) lo) ∙ ap (λ (m : ℕ). bit_xor m (lo * 2 ^ (w - suc n))) d)
      ∙ sym (xor_assoc c (b * 2 ^ (w - 1)) (lo * 2 ^ (w - suc n))) in
      bits_shifts n (bit_step w p c b) x (omega arith) (bit_step_lt c b hc hb)
      ∙ ap (shifts w p n)
      (sym
      (ap (shift w p) g
      ∙ shift_xor w p hw (bit_xor c (b * 2 ^ (w - 1))) (lo * 2 ^ (w - suc n)) (xor_lt w c (b * 2 ^ (w - 1)) hc (top_bound b hb)) (omega arith)
      ∙ ap₂ bit_xor (shift_bit c b hc hb) (shift_low w p hw (lo * 2 ^ (w - suc n)) hl1 ∙ l2)))

  byte_serial : (c x : ℕ) → c < 2 ^ w → x < 2 ^ 8 → bits_step w p 8 c x ≡ byte_step w p c x
  unfolding byte_step
  byte_serial c x hc hx = bits_shifts 8 c x hw hc ∙ ap (λ (m : ℕ). shifts w p 8 (bit_xor c (m * 2 ^ (w - 8)))) (mod-eq_of_lt hx)

  serial_register : (s : List ℕ) (c : ℕ) → AllBytes s → c < 2 ^ w → serial w p c s ≡ register w p c s
  unfolding serial register
  serial_register [] c hs hc = refl
  serial_register (x ∷ s) c hs hc =
      ap (λ (n : ℕ). serial w p n s) (byte_serial c x hc (hs.each 0))
      ∙ serial_register s (byte_step w p c x) (bytes_tail hs) (byte_step_lt w p hw hp c x hc (hs.each 0))

pub serial_agrees : (p : Parameters) (s : List ℕ) → Sound p → AllBytes s → serial_of p s ≡ check_of p s
unfolding serial_of check_of
serial_agrees p s ok h =
    serial_register p.width p.polynomial ok.wide ok.polynomial_fits (covered p.multiple s) p.start
    (covered_bytes p.multiple s h) ok.start_fits

pub stim300_agrees : (s : List ℕ) → AllBytes s → serial_of stim300 s ≡ check32 s
unfolding check32
stim300_agrees s h = serial_agrees stim300 s stim300_sound h
