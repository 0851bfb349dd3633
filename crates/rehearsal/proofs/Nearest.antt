-- Laws of the nearest number that 32 bits hold, by its two parts; a number that they don't hold gets 15 just as the number itself would.
use Prim.Native.Nat.{ℕ, ◌+◌, ◌-◌, ◌*◌, ◌^◌, ◌≤◌, ◌<◌, min}
use mir.Syntax.{w32}
use mir.Val.{SFits}
use native.Mathlib.Decide.{dec_lt}
use native.Mathlib.Omega.{arith}
use mathlib.Core.Bool.{Bool, true, false}
use mathlib.Core.Path.{◌≡◌, refl, sym, ◌∙◌}
use lib.Dec.{leb}
use lib.Pow.{pow_mono}
use lib.IntN.{ℤ, pos, negsuc, neg_ℤ, nat_abs}
use lib.Signed.{lt_z, le_z}
use borrow.Author.Tests.{leb-true, leb-false, le-leb, lt-leb, eqb-true, eqb-false, eq-eqb, ne_eqb}
use Rattle.integers.specs.Bytes.{Sign, signed, unsigned}
use Rattle.integers.specs.Ranges.{is_zero, least, greatest, fits}
use Rattle.integers.proofs.Parts.{pos_part, neg_part, parts_apart, parts_ext, nat_abs_parts, neg_pos_part, neg_neg_part, lt_z_true, lt_z_false, le_z_parts}
use Rattle.rehearsal.specs.RehearsalLine.{nearest}

-- ---- its parts

pub record Parts (z : ℤ) : Type 0 where
  pub positive : pos_part (nearest z) ≡ min (pos_part z) 2147483647
  pub negative : neg_part (nearest z) ≡ min (neg_part z) 2147483648

inside_by : (z : ℤ) (t : Bool) → lt_z (pos 2147483647) z ≡ t → lt_z z (negsuc 2147483647) ≡ false → Parts z
unfolding nearest
inside_by z true e b = let h = lt_z_true (pos 2147483647) z e in let q = parts_apart z in record { positive = rw (b, e) (omega arith); negative = rw (b, e) (omega arith) }
inside_by z false e b =
    let h = lt_z_false (pos 2147483647) z e in
    let l = lt_z_false z (negsuc 2147483647) b in
    let q = parts_apart z in
    record { positive = rw (b, e) (omega arith); negative = rw (b, e) (omega arith) }

parts_by : (z : ℤ) (t : Bool) → lt_z z (negsuc 2147483647) ≡ t → Parts z
unfolding nearest
parts_by z true e = let h = lt_z_true z (negsuc 2147483647) e in let q = parts_apart z in record { positive = rw e (omega arith); negative = rw e (omega arith) }
parts_by z false e = inside_by z (lt_z (pos 2147483647) z) refl e

pub parts : (z : ℤ) → Parts z
parts z = parts_by z (lt_z z (negsuc 2147483647)) refl

-- a number that 32 bits hold is its own nearest
pub nearest_held : (z : ℤ) → pos_part z ≤ 2147483647 → neg_part z ≤ 2147483648 → nearest z ≡ z
nearest_held z p n = parts_ext (nearest z) z (omega (arith, (parts z).positive, (parts z).negative))

-- ---- a number that isn't held is outside every field's width too

leb_same : (a b c d : ℕ) → (a ≤ b → c ≤ d) → (b < a → d < c) → leb a b ≡ leb c d
leb_same a b c d f g = by (leb a b) refl
  where
    by : (t : Bool) → leb a b ≡ t → leb a b ≡ leb c d
    by true e = e ∙ sym (le-leb c d (f (leb-true a b e)))
    by false e = e ∙ sym (lt-leb c d (g (leb-false a b e)))

-- it is above a low bound, and below a high one, just as the number is
above_same : (low z : ℤ) → neg_part low < 2147483648 → pos_part low ≤ 2147483647 → le_z low (nearest z) ≡ le_z low z
above_same low z n p =
    let s = parts z in
    let q = parts_apart z in
    let r = parts_apart low in
    le_z_parts low (nearest z)
    ∙ leb_same (pos_part low + neg_part (nearest z)) (pos_part (nearest z) + neg_part low) (pos_part low + neg_part z) (pos_part z + neg_part low) (λ h. omega arith) (λ h. omega arith) ∙ sym (le_z_parts low z)

below_same : (high z : ℤ) → neg_part high ≤ 2147483648 → pos_part high < 2147483647 → le_z (nearest z) high ≡ le_z z high
below_same high z n p =
    let s = parts z in
    let q = parts_apart z in
    let r = parts_apart high in
    le_z_parts (nearest z) high
    ∙ leb_same (pos_part (nearest z) + neg_part high) (pos_part high + neg_part (nearest z)) (pos_part z + neg_part high) (pos_part high + neg_part z) (λ h. omega arith) (λ h. omega arith) ∙ sym (le_z_parts z high)

-- it fits a field of up to three bytes just as the number does
pub nearest_fits : (s : Sign) (w : ℕ) (z : ℤ) → 0 < w → w ≤ 3 → fits s w (nearest z) ≡ fits s w z
unfolding fits
nearest_fits signed w z h l =
    let k : 8 * w - 1 ≤ 23 = omega arith in
    let m : 2 ^ (8 * w - 1) ≤ 2 ^ 23 = pow_mono k in
    rw (above_same (least signed w) z (omega arith) (omega arith), below_same (greatest signed w) z (omega arith) (omega arith))
nearest_fits unsigned w z h l =
    let k : 8 * w ≤ 24 = omega arith in
    let m : 2 ^ (8 * w) ≤ 2 ^ 24 = pow_mono k in
    rw (above_same (least unsigned w) z (omega arith) (omega arith), below_same (greatest unsigned w) z (omega arith) (omega arith))

-- it is 0 just where the number is
pub nearest_zero : (z : ℤ) → is_zero (nearest z) ≡ is_zero z
nearest_zero z = by (is_zero z) refl
  where
    by : (t : Bool) → is_zero z ≡ t → is_zero (nearest z) ≡ is_zero z
    by true e = let n = eqb-true (nat_abs z) 0 e in eq-eqb (nat_abs (nearest z)) 0 (omega (arith, (parts z).positive, (parts z).negative, nat_abs_parts z, nat_abs_parts (nearest z))) ∙ sym e
    by false e =
        let n = eqb-false (nat_abs z) 0 e in
        ne_eqb (nat_abs (nearest z)) 0 (λ q. n (omega (arith, (parts z).positive, (parts z).negative, nat_abs_parts z, nat_abs_parts (nearest z)))) ∙ sym e

-- ---- by its size, which the code has only up to 2^32

module _ (n : ℕ) where
  pub positive_capped : nearest (pos (min n 4294967296)) ≡ nearest (pos n)
  positive_capped =
      let c = parts (pos (min n 4294967296)) in
      let p = parts (pos n) in
      parts_ext (nearest (pos (min n 4294967296))) (nearest (pos n)) (omega arith)

  pub negative_capped : nearest (neg_ℤ (pos (min n 4294967296))) ≡ nearest (neg_ℤ (pos n))
  negative_capped =
      let c = parts (neg_ℤ (pos (min n 4294967296))) in
      let p = parts (neg_ℤ (pos n)) in
      parts_ext (nearest (neg_ℤ (pos (min n 4294967296)))) (nearest (neg_ℤ (pos n)))
      (omega (arith, neg_pos_part (pos n), neg_neg_part (pos n), neg_pos_part (pos (min n 4294967296)), neg_neg_part (pos (min n 4294967296))))

  -- a size that a signed number of 32 bits isn't
  pub not_held : (SFits w32 (pos n) → ⊥) → 2147483648 ≤ n
  not_held h = by (dec_lt n 2147483648)
    where
      by : Dec (n < 2147483648) → 2147483648 ≤ n
      by (yes l) = absurd (h (record { sfits = l }))
      by (no l) = omega arith

  pub positive_low : n < 2147483648 → nearest (pos n) ≡ pos n
  positive_low h = nearest_held (pos n) (omega arith) (omega arith)

  pub positive_high : 2147483648 ≤ n → nearest (pos n) ≡ pos 2147483647
  positive_high h = let p = parts (pos n) in parts_ext (nearest (pos n)) (pos 2147483647) (omega arith)

  pub negative_low : n < 2147483648 → nearest (neg_ℤ (pos n)) ≡ neg_ℤ (pos n)
  negative_low h = nearest_held (neg_ℤ (pos n)) (omega (arith, neg_pos_part (pos n))) (omega (arith, neg_neg_part (pos n)))

  pub negative_high : 2147483648 ≤ n → nearest (neg_ℤ (pos n)) ≡ negsuc 2147483647
  negative_high h =
      let p = parts (neg_ℤ (pos n)) in
      parts_ext (nearest (neg_ℤ (pos n))) (negsuc 2147483647) (omega (arith, neg_pos_part (pos n), neg_neg_part (pos n)))
