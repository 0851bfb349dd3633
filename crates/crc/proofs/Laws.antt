-- Laws of the check over its width: a shift is linear, and what it makes of a register is a register.
-- Assumes nothing.
use mathlib.Core.Path.{◌≡◌, refl, sym, ap, ap₂, ◌∙◌, subst}
use mathlib.Core.List.{List, [], ◌∷◌, ◌++◌}
use Prim.Native.Nat.{ℕ, zero, suc, ◌+◌, ◌-◌, ◌*◌, ◌/◌, ◌%◌, ◌^◌, ◌≤◌, ◌<◌}
use native.Mathlib.Nat.{div-eq_of_lt-le, add-zero, mul-div_cancel, mul-mod_left, zero-mul, one-mul, mul-one, mul_assoc, mul_comm, mod-lt, mod-eq_of_lt, div-eq_of_lt, div-lt_iff_lt-mul, pow-suc, mul-lt-mul_of_pos_right, mul-le-mul_left, zero-add, suc-add}
use native.Mathlib.Omega.{arith}
use lib.Arith.{mod-mul}
use lib.Pow.{pow_pos, pow-add}
use lib.Bits.{bit_xor, xor_shr, xor_mod, xor_lt, xor_zero_r}
use Rattle.integers.specs.Bytes.{AllBytes}
use Rattle.integers.proofs.Bytes.{bytes_tail}
use Rattle.crc.specs.Check.{shift, shifts, byte_step, register}
use Rattle.crc.proofs.Xor.{digit, xor_middle, xor_scale, xor_choice}

pub pow_join : (i j k : ℕ) → i + j ≡ k → 2 ^ i * 2 ^ j ≡ 2 ^ k
pow_join i j k e = sym (pow-add 2 i j) ∙ ap (λ (n : ℕ). 2 ^ n) e

-- what a shift to the left keeps of a number: its low j bits
pub shifted_mod : (a j k : ℕ) → a * 2 ^ k % (2 ^ j * 2 ^ k) ≡ a % 2 ^ j * 2 ^ k
shifted_mod a j k =
    mod-mul (a * 2 ^ k) (pow_pos j) (pow_pos k)
    ∙ ap₂ (λ (x y : ℕ). x % 2 ^ j * 2 ^ k + y) (mul-div_cancel a (pow_pos k)) (mul-mod_left a (2 ^ k))
    ∙ add-zero (a % 2 ^ j * 2 ^ k)

-- the bytes one after the other
pub register_append : (w p c : ℕ) (xs ys : List ℕ) → register w p c (xs ++ ys) ≡ register w p (register w p c xs) ys
unfolding register
register_append w p c [] ys = refl
register_append w p c (x ∷ xs) ys = register_append w p (byte_step w p c x) xs ys

module _ (w p : ℕ) (hw : 8 ≤ w) where
  -- the power of the width is twice the one below it
  pow_top : 2 ^ (w - 1) * 2 ≡ 2 ^ w
  pow_top = pow_join (w - 1) 1 w (omega arith)

  -- the bit that leaves at the top
  pub top_lt : (c : ℕ) → c < 2 ^ w → c / 2 ^ (w - 1) < 2
  top_lt c h = (div-lt_iff_lt-mul (pow_pos (w - 1))).1 (omega (arith, pow_top))

  pub shift_xor : (a b : ℕ) → a < 2 ^ w → b < 2 ^ w → shift w p (bit_xor a b) ≡ bit_xor (shift w p a) (shift w p b)
  unfolding shift
  shift_xor a b ha hb =
      ap₂ bit_xor
      (ap (λ (n : ℕ). n % 2 ^ w) (sym (xor_scale 1 a b)) ∙ xor_mod (a * 2) (b * 2) w)
      (ap (λ (n : ℕ). n * p) (xor_shr a b (w - 1))
      ∙ sym (xor_choice p (a / 2 ^ (w - 1)) (b / 2 ^ (w - 1)) (top_lt a ha) (top_lt b hb)))
      ∙ xor_middle (a * 2 % 2 ^ w) (b * 2 % 2 ^ w) (a / 2 ^ (w - 1) * p) (b / 2 ^ (w - 1) * p)

  -- a shift by the two cases of the top bit
  pub shift_clear : (c : ℕ) → c < 2 ^ (w - 1) → shift w p c ≡ c * 2 % 2 ^ w
  unfolding shift
  shift_clear c h = ap (bit_xor (c * 2 % 2 ^ w)) (ap (λ (n : ℕ). n * p) (div-eq_of_lt h) ∙ zero-mul p) ∙ xor_zero_r (c * 2 % 2 ^ w)

  pub shift_set : (c : ℕ) → 2 ^ (w - 1) ≤ c → c < 2 ^ w → shift w p c ≡ bit_xor (c * 2 % 2 ^ w) p
  unfolding shift
  shift_set c h g =
      let e : c / 2 ^ (w - 1) ≡ 1 = div-eq_of_lt-le {k = 1} (2 ^ (w - 1)) (omega arith) (omega (arith, pow_top)) in
      ap (bit_xor (c * 2 % 2 ^ w)) (ap (λ (n : ℕ). n * p) e ∙ one-mul p)

  -- while the top bit is zero, a shift doubles
  pub shift_low : (c : ℕ) → c * 2 < 2 ^ w → shift w p c ≡ c * 2
  shift_low c h = shift_clear c (omega (arith, pow_top)) ∙ mod-eq_of_lt h

  pub shifts_low : (n c : ℕ) → c * 2 ^ n < 2 ^ w → shifts w p n c ≡ c * 2 ^ n
  unfolding shifts
  shifts_low zero c h = sym (mul-one c)
  shifts_low (suc n) c h =
      let e : c * 2 ^ suc n ≡ c * 2 * 2 ^ n = ap (λ (x : ℕ). c * x) (pow-suc 2 n ∙ mul_comm (2 ^ n) 2) ∙ sym (mul_assoc c 2 (2 ^ n)) in
      let g : c * 2 * 2 ^ n < 2 ^ w = subst (λ (x : ℕ). x < 2 ^ w) e h in
      let l : c * 2 * 1 ≤ c * 2 * 2 ^ n = mul-le-mul_left (c * 2) (pow_pos n) in
      ap (shifts w p n) (shift_low c (omega arith)) ∙ shifts_low n (c * 2) g ∙ sym e

  pub shifts_add : (m n c : ℕ) → shifts w p (m + n) c ≡ shifts w p n (shifts w p m c)
  unfolding shifts
  shifts_add zero n c = ap (λ (k : ℕ). shifts w p k c) (zero-add n)
  shifts_add (suc m) n c = ap (λ (k : ℕ). shifts w p k c) (suc-add m n) ∙ shifts_add m n (shift w p c)

  module _ (hp : p < 2 ^ w) where
    pub shift_lt : (c : ℕ) → c < 2 ^ w → shift w p c < 2 ^ w
    unfolding shift
    shift_lt c h =
        xor_lt w (c * 2 % 2 ^ w) (c / 2 ^ (w - 1) * p) (mod-lt (c * 2) (pow_pos w))
        (digit (λ (t : ℕ). t * p < 2 ^ w) (omega (arith, zero-mul p)) (omega (arith, one-mul p)) (c / 2 ^ (w - 1)) (top_lt c h))

    pub shifts_lt : (n c : ℕ) → c < 2 ^ w → shifts w p n c < 2 ^ w
    unfolding shifts
    shifts_lt zero c h = h
    shifts_lt (suc n) c h = shifts_lt n (shift w p c) (shift_lt c h)

    pub shifts_xor : (n a b : ℕ) → a < 2 ^ w → b < 2 ^ w → shifts w p n (bit_xor a b) ≡ bit_xor (shifts w p n a) (shifts w p n b)
    unfolding shifts
    shifts_xor zero a b ha hb = refl
    shifts_xor (suc n) a b ha hb =
        ap (shifts w p n) (shift_xor a b ha hb) ∙ shifts_xor n (shift w p a) (shift w p b) (shift_lt a ha) (shift_lt b hb)

    -- a byte in the top eight bits
    pub byte_lt : (x : ℕ) → x < 2 ^ 8 → x * 2 ^ (w - 8) < 2 ^ w
    byte_lt x hx = omega (arith, mul-lt-mul_of_pos_right hx (pow_pos (w - 8)), pow_join (w - 8) 8 w (omega arith))

    pub byte_step_lt : (c x : ℕ) → c < 2 ^ w → x < 2 ^ 8 → byte_step w p c x < 2 ^ w
    unfolding byte_step
    byte_step_lt c x hc hx = shifts_lt 8 (bit_xor c (x * 2 ^ (w - 8))) (xor_lt w c (x * 2 ^ (w - 8)) hc (byte_lt x hx))

    pub register_lt : (s : List ℕ) (c : ℕ) → AllBytes s → c < 2 ^ w → register w p c s < 2 ^ w
    unfolding register
    register_lt [] c hs hc = hc
    register_lt (x ∷ s) c hs hc = register_lt s (byte_step w p c x) (bytes_tail hs) (byte_step_lt c x hc (hs.each 0))
