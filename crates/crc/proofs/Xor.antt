-- Laws of `bit_xor` that `lib.Bits` lacks: it is associative, and a shift and a choice pass through it.
-- Assumes nothing.
use mathlib.Core.Path.{◌≡◌, refl, sym, ap, ap₂, ◌∙◌}
use Prim.Native.Nat.{ℕ, zero, suc, ◌+◌, ◌*◌, ◌/◌, ◌%◌, ◌^◌, ◌<◌}
use native.Mathlib.Nat.{add-zero, zero-mul, div-add-mod', mod-lt}
use native.Mathlib.Omega.{arith}
use lib.Arith.{bin_ind}
use lib.Pow.{pow_pos}
use lib.Bits.{bit_xor, xor_block, xor_shr, xor_mod, xor_comm, xor_self, xor_zero_r}

-- what holds of 0 and of 1 holds of each digit
pub digit : (P : ℕ → Type 0) → P 0 → P 1 → (x : ℕ) → x < 2 → P x
digit P p q zero h = p
digit P p q (suc zero) h = q
digit P p q (suc (suc x)) h = absurd (omega arith)

half : (a b : ℕ) → bit_xor a b / 2 ≡ bit_xor (a / 2) (b / 2)
half a b = xor_shr a b 1

odd : (a b : ℕ) → bit_xor a b % 2 ≡ bit_xor (a % 2) (b % 2)
odd a b = xor_mod a b 1

-- the lowest digit and the rest apart
parts : (a b : ℕ) → bit_xor a b ≡ bit_xor (a / 2) (b / 2) * 2 + bit_xor (a % 2) (b % 2)
parts a b =
    sym (div-add-mod' (bit_xor a b) 2) ∙ ap₂ (λ (x y : ℕ). x * 2 + y) (half a b) (odd a b)

digit_assoc : (x y z : ℕ) → x < 2 → y < 2 → z < 2 → bit_xor (bit_xor x y) z ≡ bit_xor x (bit_xor y z)
digit_assoc x y z hx hy hz =
    digit (λ (x : ℕ). bit_xor (bit_xor x y) z ≡ bit_xor x (bit_xor y z))
    refl
    (digit (λ (y : ℕ). bit_xor (bit_xor 1 y) z ≡ bit_xor 1 (bit_xor y z))
    refl
    (digit (λ (z : ℕ). bit_xor (bit_xor 1 1) z ≡ bit_xor 1 (bit_xor 1 z)) refl refl z hz)
    y hy)
    x hx

two_pos : 0 < 2
two_pos = omega arith

pub xor_assoc : (a b c : ℕ) → bit_xor (bit_xor a b) c ≡ bit_xor a (bit_xor b c)
xor_assoc a =
    bin_ind (λ (n : ℕ). (b c : ℕ) → bit_xor (bit_xor n b) c ≡ bit_xor n (bit_xor b c)) (λ b c. refl)
    (λ n ih b c.
    parts (bit_xor n b) c
    ∙ ap₂ (λ (x y : ℕ). bit_xor x (c / 2) * 2 + bit_xor y (c % 2)) (half n b) (odd n b)
    ∙ ap₂ (λ (x y : ℕ). x * 2 + y) (ih (b / 2) (c / 2))
    (digit_assoc (n % 2) (b % 2) (c % 2) (mod-lt n two_pos) (mod-lt b two_pos) (mod-lt c two_pos))
    ∙ sym (ap₂ (λ (x y : ℕ). bit_xor (n / 2) x * 2 + bit_xor (n % 2) y) (half b c) (odd b c))
    ∙ sym (parts n (bit_xor b c)))
    a

-- two sums, added by the parts
pub xor_middle : (a b c d : ℕ) → bit_xor (bit_xor a b) (bit_xor c d) ≡ bit_xor (bit_xor a c) (bit_xor b d)
xor_middle a b c d =
    xor_assoc a b (bit_xor c d)
    ∙ ap (bit_xor a) (sym (xor_assoc b c d) ∙ ap (λ (x : ℕ). bit_xor x d) (xor_comm b c) ∙ xor_assoc c b d)
    ∙ sym (xor_assoc a c (bit_xor b d))

-- a shift to the left passes through
pub xor_scale : (k a b : ℕ) → bit_xor (a * 2 ^ k) (b * 2 ^ k) ≡ bit_xor a b * 2 ^ k
xor_scale k a b =
    ap₂ bit_xor (sym (add-zero (a * 2 ^ k))) (sym (add-zero (b * 2 ^ k)))
    ∙ xor_block k a b 0 0 (pow_pos k) (pow_pos k)
    ∙ add-zero (bit_xor a b * 2 ^ k)

-- a choice passes through
pub xor_choice : (p s t : ℕ) → s < 2 → t < 2 → bit_xor (s * p) (t * p) ≡ bit_xor s t * p
xor_choice p s t hs ht =
    digit (λ (s : ℕ). bit_xor (s * p) (t * p) ≡ bit_xor s t * p)
    (ap (λ (x : ℕ). bit_xor x (t * p)) (zero-mul p))
    (digit (λ (t : ℕ). bit_xor (1 * p) (t * p) ≡ bit_xor 1 t * p)
    (ap (bit_xor (1 * p)) (zero-mul p) ∙ xor_zero_r (1 * p))
    (xor_self (1 * p) ∙ sym (zero-mul p))
    t ht)
    s hs
