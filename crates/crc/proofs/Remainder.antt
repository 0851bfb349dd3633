-- A wide register moves as the register of width 32 does that it stands for.
-- Assumes nothing.
use mathlib.Core.Path.{◌≡◌, refl, sym, ap, ap₂, ◌∙◌}
use Prim.Native.Nat.{ℕ, zero, suc, ◌+◌, ◌*◌, ◌/◌, ◌%◌, ◌^◌, ◌<◌}
use native.Mathlib.Nat.{lt_trans, mod-lt, mod-eq_of_lt, div-eq_of_lt}
use native.Mathlib.Omega.{arith}
use lib.Dec.{lit<, lit≤}
use lib.Pow.{pow_pos, split, shl_lt, shr_lt}
use lib.Bits.{bit_xor, xor_lt, xor_comm, xor_shr, xor_mod, xor_shifted}
use Rattle.crc.specs.Check.{shift, shifts}
use Rattle.crc.specs.Wide.{wide_polynomial, remainder}
use Rattle.crc.proofs.Xor.{digit, xor_assoc, xor_middle}
use Rattle.crc.proofs.Laws.{shifted_mod, shift_xor, shift_low, shift_lt, shifts_add, shifts_lt, shifts_xor}

abbrev narrow : ℕ → ℕ
narrow c = shift 32 0x04C11DB7 c

abbrev word : ℕ → ℕ
word c = shifts 32 0x04C11DB7 32 c

pub remainder_lt : (c : ℕ) → c < 2 ^ 64 → remainder c < 2 ^ 32
unfolding remainder
remainder_lt c h =
    xor_lt 32 (word (c / 2 ^ 32)) (c % 2 ^ 32) (shifts_lt 32 0x04C11DB7 (lit≤ tt) (lit< tt) 32 (c / 2 ^ 32) (omega arith)) (mod-lt c (pow_pos 32))

pub remainder_xor : (a b : ℕ) → a < 2 ^ 64 → b < 2 ^ 64 → remainder (bit_xor a b) ≡ bit_xor (remainder a) (remainder b)
unfolding remainder
remainder_xor a b ha hb =
    ap₂ (λ (x y : ℕ). bit_xor (word x) y) (xor_shr a b 32) (xor_mod a b 32)
    ∙ ap (λ (x : ℕ). bit_xor x (bit_xor (a % 2 ^ 32) (b % 2 ^ 32)))
    (shifts_xor 32 0x04C11DB7 (lit≤ tt) (lit< tt) 32 (a / 2 ^ 32) (b / 2 ^ 32) (omega arith) (omega arith))
    ∙ xor_middle (word (a / 2 ^ 32)) (word (b / 2 ^ 32)) (a % 2 ^ 32) (b % 2 ^ 32)

-- what is below 2 ^ 32 stands for itself
pub remainder_low : (c : ℕ) → c < 2 ^ 32 → remainder c ≡ c
unfolding remainder shifts shift
remainder_low c h = ap₂ (λ (x y : ℕ). bit_xor (word x) y) (div-eq_of_lt h) (mod-eq_of_lt h)

-- a bit that moves into the upper half brings the polynomial
low_bit : (t : ℕ) → t < 2 → word t ≡ t * 0x04C11DB7
unfolding shifts shift
low_bit = digit (λ (t : ℕ). word t ≡ t * 0x04C11DB7) refl refl

word_double : (h : ℕ) → h * 2 < 2 ^ 32 → word (h * 2) ≡ narrow (word h)
unfolding shifts
word_double h l = ap word (sym (shift_low 32 0x04C11DB7 (lit≤ tt) h l)) ∙ shifts_add 32 0x04C11DB7 (lit≤ tt) 32 1 h

remainder_double : (c : ℕ) → c * 2 < 2 ^ 64 → remainder (c * 2) ≡ narrow (remainder c)
unfolding remainder shift
remainder_double c l =
    let h : ℕ = c / 2 ^ 32 in
    let m : ℕ = c % 2 ^ 32 * 2 % 2 ^ 32 in
    let t : ℕ = c % 2 ^ 32 / 2 ^ 31 in
    let ht : t < 2 = omega arith in
    let up : c * 2 / 2 ^ 32 ≡ h * 2 + t = omega arith in
    let down : c * 2 % 2 ^ 32 ≡ m = omega arith in
    let a : word (h * 2 + t) ≡ bit_xor (narrow (word h)) (t * 0x04C11DB7) =
    ap word (sym (xor_shifted h 1 t ht))
    ∙ shifts_xor 32 0x04C11DB7 (lit≤ tt) (lit< tt) 32 (h * 2) t (omega arith) (omega arith)
    ∙ ap₂ bit_xor (word_double h (omega arith)) (low_bit t ht) in
    ap₂ (λ (x y : ℕ). bit_xor (word x) y) up down
    ∙ ap (λ (x : ℕ). bit_xor x m) a
    ∙ xor_assoc (narrow (word h)) (t * 0x04C11DB7) m
    ∙ ap (bit_xor (narrow (word h))) (xor_comm (t * 0x04C11DB7) m)
    ∙ sym
    (shift_xor 32 0x04C11DB7 (lit≤ tt) (word h) (c % 2 ^ 32) (shifts_lt 32 0x04C11DB7 (lit≤ tt) (lit< tt) 32 h (omega arith)) (omega arith))

-- the bit that leaves a wide register at the top
top_bit : (t : ℕ) → t < 2 → narrow (remainder (t * 2 ^ 63)) ≡ t * wide_polynomial
unfolding remainder shifts shift
top_bit = digit (λ (t : ℕ). narrow (remainder (t * 2 ^ 63)) ≡ t * wide_polynomial) refl refl

wide_lt : (t : ℕ) → t < 2 → t * wide_polynomial < 2 ^ 32
wide_lt = digit (λ (t : ℕ). t * wide_polynomial < 2 ^ 32) (lit< tt) (lit< tt)

remainder_shift : (c : ℕ) → c < 2 ^ 64 → remainder (shift 64 wide_polynomial c) ≡ narrow (remainder c)
unfolding shift
remainder_shift c l =
    let t : ℕ = c / 2 ^ 63 in
    let r : ℕ = c % 2 ^ 63 in
    let ht : t < 2 = shr_lt 1 63 l in
    let hr : r < 2 ^ 63 = mod-lt c (pow_pos 63) in
    let hd : r * 2 < 2 ^ 64 = shl_lt 63 1 hr in
    let hm : t * 2 ^ 63 < 2 ^ 64 = shl_lt 1 63 ht in
    let hp : t * wide_polynomial < 2 ^ 32 = wide_lt t ht in
    let hs : r < 2 ^ 64 = lt_trans hr (lit< tt) in
    let e : c * 2 % 2 ^ 64 ≡ r * 2 = shifted_mod c 63 1 in
    let g : bit_xor (t * 2 ^ 63) r ≡ c = xor_shifted t 63 r hr ∙ split c 63 in
    ap (λ (x : ℕ). remainder (bit_xor x (t * wide_polynomial))) e
    ∙ remainder_xor (r * 2) (t * wide_polynomial) hd (lt_trans hp (lit< tt))
    ∙ ap₂ bit_xor (remainder_double r hd) (remainder_low (t * wide_polynomial) hp ∙ sym (top_bit t ht))
    ∙ xor_comm (narrow (remainder r)) (narrow (remainder (t * 2 ^ 63)))
    ∙ sym
    (shift_xor 32 0x04C11DB7 (lit≤ tt) (remainder (t * 2 ^ 63)) (remainder r) (remainder_lt (t * 2 ^ 63) hm) (remainder_lt r hs))
    ∙ ap narrow (sym (remainder_xor (t * 2 ^ 63) r hm hs) ∙ ap remainder g)

pub remainder_shifts : (n c : ℕ) → c < 2 ^ 64 → remainder (shifts 64 wide_polynomial n c) ≡ shifts 32 0x04C11DB7 n (remainder c)
unfolding shifts
remainder_shifts zero c l = refl
remainder_shifts (suc n) c l =
    remainder_shifts n (shift 64 wide_polynomial c) (shift_lt 64 wide_polynomial (lit≤ tt) (lit< tt) c l)
    ∙ ap (shifts 32 0x04C11DB7 n) (remainder_shift c l)
