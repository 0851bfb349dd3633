-- Laws of values in bytes, over the width of the field: what is written is read as the same value, and what is read is written as the same bytes.
use Prim.Native.Nat.{ℕ, zero, suc, ◌+◌, ◌-◌, ◌*◌, ◌/◌, ◌%◌, ◌^◌, ◌≤◌, ◌<◌}
use native.Mathlib.Nat.{mod-eq_of_lt, mod-lt}
use native.Mathlib.Omega.{arith}
use mathlib.Core.Bool.{Bool, true, false}
use mathlib.Core.List.{List}
use mathlib.Core.Path.{◌≡◌, refl, sym, ap, ap₂, ◌∙◌}
use lib.Dec.{ltb}
use lib.IntN.{ℤ, pos, negsuc, ◌-ℤ◌}
use lib.ListN.{length}
use lib.Pow.{pow_pos, pow-add, mod-pow-add}
use lib.Signed.{le_z}
use borrow.Author.Tests.{ltb-true, ltb-false}
use Rattle.integers.specs.Bytes.{AllBytes, big_endian, twos_complement, signed_bytes, in_bytes, Sign, signed, unsigned, value_of, value_bytes}
use Rattle.integers.specs.Ranges.{least, greatest, fits}
use Rattle.integers.specs.Rounding.{residue}
use Rattle.integers.proofs.Booleans.{and_split, and_true}
use Rattle.integers.proofs.Bytes.{bytes_nil, bytes_cons, big_endian_below, big_endian_injective, twos_complement_low, twos_complement_high}
use Rattle.integers.proofs.Bytes.{signed_bytes_range}
use Rattle.integers.proofs.Parts.{pos_part, neg_part, parts_apart, parts_ext, sub_parts, le_z_true, le_le_z}
use Rattle.integers.proofs.Rounding.{residue_below}

-- ---- a number in bytes

pub in_bytes_length : (w n : ℕ) → length (in_bytes w n) ≡ w
unfolding in_bytes
in_bytes_length zero n = refl
in_bytes_length (suc w) n = ap suc (in_bytes_length w n)

pub in_bytes_bytes : (w n : ℕ) → AllBytes (in_bytes w n)
unfolding in_bytes
in_bytes_bytes zero n = bytes_nil
in_bytes_bytes (suc w) n = bytes_cons (omega arith) (in_bytes_bytes w n)

-- they stand for it modulo 2 ^ (8 * w)
in_bytes_modulo : (w n : ℕ) → big_endian (in_bytes w n) ≡ n % 2 ^ (8 * w)
unfolding in_bytes big_endian
in_bytes_modulo zero n = omega arith
in_bytes_modulo (suc w) n =
    let e : 8 * suc w ≡ 8 + 8 * w = omega arith in
    ap₂ (λ (k m : ℕ). (n / 2 ^ (8 * w) % 256) * 2 ^ (8 * k) + m) (in_bytes_length w n) (in_bytes_modulo w n)
    ∙ sym (mod-pow-add n 8 (8 * w))
    ∙ ap (λ (k : ℕ). n % 2 ^ k) (sym e)

pub in_bytes_value : (w n : ℕ) → n < 2 ^ (8 * w) → big_endian (in_bytes w n) ≡ n
in_bytes_value w n h = in_bytes_modulo w n ∙ mod-eq_of_lt h

-- bytes written again
in_bytes_again : (bs : List ℕ) → AllBytes bs → in_bytes (length bs) (big_endian bs) ≡ bs
in_bytes_again bs h =
    big_endian_injective (in_bytes (length bs) (big_endian bs)) bs (in_bytes_bytes (length bs) (big_endian bs)) h (in_bytes_length (length bs) (big_endian bs))
    (in_bytes_value (length bs) (big_endian bs) (big_endian_below bs h))

-- ---- two's complement, of w bits

module _ (w : ℕ) where
  abbrev m : ℕ
  m = 2 ^ w

  -- a number in the range is that of its residue
  complement_residue : (z : ℤ) → 2 * pos_part z < m → 2 * neg_part z ≤ m → twos_complement w (residue z m) ≡ z
  complement_residue (pos a) l h = let r : a % m ≡ a = mod-eq_of_lt (omega arith) in rw r (twos_complement_low w a l)
  complement_residue (negsuc a) l h =
      let n = m - suc a in
      let s = sub_parts (pos n) (pos m) in
      let q = parts_apart (pos n -ℤ pos m) in
      let r : a % m ≡ a = mod-eq_of_lt (omega arith) in
      rw r (twos_complement_high w n (omega arith) ∙ parts_ext (pos n -ℤ pos m) (negsuc a) (omega arith))

  -- and the residue of the number that n stands for is n
  residue_complement : (n : ℕ) → n < m → residue (twos_complement w n) m ≡ n
  residue_complement n h = by (ltb (2 * n) m) refl
    where
      by : (t : Bool) → ltb (2 * n) m ≡ t → residue (twos_complement w n) m ≡ n
      by true e = rw (twos_complement_low w n (ltb-true (2 * n) m e)) (mod-eq_of_lt h)
      by false e =
          let l = ltb-false (2 * n) m e in
          let a = m - n - 1 in
          let s = sub_parts (pos n) (pos m) in
          let q = parts_apart (pos n -ℤ pos m) in
          let z : pos n -ℤ pos m ≡ negsuc a = parts_ext (pos n -ℤ pos m) (negsuc a) (omega arith) in
          let r : a % m ≡ a = mod-eq_of_lt (omega arith) in
          let f : m - suc a ≡ n = omega arith in
          rw (twos_complement_high w n l, z, r) f

-- ---- a value in a field

pub value_bytes_length : (w : ℕ) (z : ℤ) → length (value_bytes w z) ≡ w
unfolding value_bytes
value_bytes_length w z = in_bytes_length w (residue z (2 ^ (8 * w)))

pub value_bytes_bytes : (w : ℕ) (z : ℤ) → AllBytes (value_bytes w z)
unfolding value_bytes
value_bytes_bytes w z = in_bytes_bytes w (residue z (2 ^ (8 * w)))

-- the width's power by its half
halves : (w : ℕ) → 0 < w → 2 ^ (8 * w) ≡ 2 * 2 ^ (8 * w - 1)
halves w h = let e : 8 * w ≡ 1 + (8 * w - 1) = omega arith in ap (λ (k : ℕ). 2 ^ k) e ∙ pow-add 2 1 (8 * w - 1)

-- what the range says, as two sizes
signed_range : (w : ℕ) (z : ℤ) → 0 < w → fits signed w z ≡ true → (2 * pos_part z < 2 ^ (8 * w)) × (2 * neg_part z ≤ 2 ^ (8 * w))
unfolding fits
signed_range w z h e =
    let p = and_split (le_z (least signed w) z) (le_z z (greatest signed w)) e in
    let l = le_z_true (least signed w) z p.0 in
    let u = le_z_true z (greatest signed w) p.1 in
    let q = parts_apart z in
    let k = halves w h in
    let o : 0 < 2 ^ (8 * w - 1) = pow_pos (8 * w - 1) in
    (omega arith, omega arith)

range_signed : (w : ℕ) (z : ℤ) → 0 < w → 2 * pos_part z < 2 ^ (8 * w) → 2 * neg_part z ≤ 2 ^ (8 * w) → fits signed w z ≡ true
unfolding fits
range_signed w z h l u =
    let q = parts_apart z in
    let k = halves w h in
    let o : 0 < 2 ^ (8 * w - 1) = pow_pos (8 * w - 1) in
    and_true (le_le_z (least signed w) z (omega arith)) (le_le_z z (greatest signed w) (omega arith))

unsigned_range : (w : ℕ) (z : ℤ) → fits unsigned w z ≡ true → (pos_part z < 2 ^ (8 * w)) × (neg_part z ≡ 0)
unfolding fits
unsigned_range w z e =
    let p = and_split (le_z (least unsigned w) z) (le_z z (greatest unsigned w)) e in
    let l = le_z_true (least unsigned w) z p.0 in
    let u = le_z_true z (greatest unsigned w) p.1 in
    let q = parts_apart z in
    let o : 0 < 2 ^ (8 * w) = pow_pos (8 * w) in
    (omega arith, omega arith)

-- what is written is read as the same value
pub value_read : (s : Sign) (w : ℕ) (z : ℤ) → 0 < w → fits s w z ≡ true → value_of s (value_bytes w z) ≡ z
unfolding value_bytes signed_bytes
value_read signed w z h e =
    let r = signed_range w z h e in
    let n = residue z (2 ^ (8 * w)) in
    ap₂ (λ (k m : ℕ). twos_complement (8 * k) m) (in_bytes_length w n) (in_bytes_value w n (residue_below z (2 ^ (8 * w)) (pow_pos (8 * w))))
    ∙ complement_residue (8 * w) z r.0 r.1
value_read unsigned w (pos a) h e =
    let r = unsigned_range w (pos a) e in
    let n = a % 2 ^ (8 * w) in
    ap pos (in_bytes_value w n (mod-lt a (pow_pos (8 * w))) ∙ mod-eq_of_lt r.0)
value_read unsigned w (negsuc a) h e = let r = unsigned_range w (negsuc a) e in absurd (omega arith)

-- what is read is in the width, and written again it is the same bytes
pub value_fits : (s : Sign) (bs : List ℕ) → AllBytes bs → 0 < length bs → fits s (length bs) (value_of s bs) ≡ true
value_fits signed bs h l = let c = signed_bytes_range bs h in range_signed (length bs) (signed_bytes bs) l c.below c.above
value_fits unsigned bs h l =
    let b = big_endian_below bs h in
    unfold fits in and_true (le_le_z (pos 0) (pos (big_endian bs)) (omega arith)) (le_le_z (pos (big_endian bs)) (greatest unsigned (length bs)) (omega arith))

pub value_again : (s : Sign) (bs : List ℕ) → AllBytes bs → value_bytes (length bs) (value_of s bs) ≡ bs
unfolding value_bytes signed_bytes
value_again signed bs h =
    ap (in_bytes (length bs)) (residue_complement (8 * length bs) (big_endian bs) (big_endian_below bs h)) ∙ in_bytes_again bs h
value_again unsigned bs h = ap (in_bytes (length bs)) (mod-eq_of_lt (big_endian_below bs h)) ∙ in_bytes_again bs h
