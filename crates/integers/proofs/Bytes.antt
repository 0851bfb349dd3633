-- Laws of the values of bytes, over the number of bytes and the width in bits. Assumes nothing.
use mathlib.Core.Path.{◌≡◌, refl, sym, ap, ◌∙◌, subst}
use mathlib.Core.Bool.{Bool, true, false}
use mathlib.Core.List.{List, [], ◌∷◌, ◌++◌}
use Prim.Native.Nat.{ℕ, zero, suc, ◌+◌, ◌-◌, ◌*◌, ◌/◌, ◌%◌, ◌^◌, ◌≤◌, ◌<◌}
use native.Mathlib.Nat.{suc-mul, mul-le-mul_right}
use native.Mathlib.Omega.{arith}
use lib.Dec.{ltb}
use lib.IntN.{ℤ, pos, negsuc, ◌-ℤ◌}
use lib.ListN.{length, take, drop, get_or}
use lib.Pow.{pow-add, high, low}
use lib.Seq.{get_or-drop}
use lib.Signed.{shr_z}
use mir.Syntax.{Width, w16, w32}
use mir.Val.{bits, hbits, to_z}
use mir.ValLaws.{to_z_pos, to_z-neg, pow-bits}
use borrow.Author.Tests.{lt-ltb, le-ltb, ltb-true, ltb-false}
use Rattle.std.specs.Int.{cast_signed, from_be_bytes}
use Rattle.integers.specs.Bytes.{AllBytes, are_bytes, big_endian, twos_complement, signed_bytes}
use Rattle.integers.proofs.Booleans.{and_split, and_true}
use Rattle.integers.proofs.Parts.{pos_part, neg_part, parts_apart, sub_parts, parts_ext}

-- ---- lists of bytes

pub bytes_nil : AllBytes []
bytes_nil = record { each = λ i. omega arith }

pub bytes_cons : {b : ℕ} {bs : List ℕ} → b < 256 → AllBytes bs → AllBytes (b ∷ bs)
bytes_cons {b} {bs} h k = record { each = at }
  where
    at : (i : ℕ) → get_or (b ∷ bs) i 0 < 256
    at zero = h
    at (suc i) = k.each i

pub bytes_tail : {b : ℕ} {bs : List ℕ} → AllBytes (b ∷ bs) → AllBytes bs
bytes_tail h = record { each = λ i. h.each (suc i) }

-- the test of bytes, both ways
pub are_bytes_all : (bs : List ℕ) → are_bytes bs ≡ true → AllBytes bs
unfolding are_bytes
are_bytes_all [] e = bytes_nil
are_bytes_all (b ∷ bs) e =
    let k = and_split _ (are_bytes bs) e in
    bytes_cons (ltb-true b _ k.0) (are_bytes_all bs k.1)

pub all_are_bytes : (bs : List ℕ) → AllBytes bs → are_bytes bs ≡ true
unfolding are_bytes
all_are_bytes [] h = refl
all_are_bytes (b ∷ bs) h = and_true (lt-ltb b _ (h.each 0)) (all_are_bytes bs (bytes_tail h))

pub bytes_append : {xs ys : List ℕ} → AllBytes xs → AllBytes ys → AllBytes (xs ++ ys)
bytes_append {xs = []} h k = k
bytes_append {xs = x ∷ xs} h k = bytes_cons (h.each 0) (bytes_append (bytes_tail h) k)

pub bytes_take : (n : ℕ) {bs : List ℕ} → AllBytes bs → AllBytes (take n bs)
bytes_take zero h = bytes_nil
bytes_take (suc n) {bs = []} h = bytes_nil
bytes_take (suc n) {bs = b ∷ bs} h = bytes_cons (h.each 0) (bytes_take n (bytes_tail h))

pub bytes_drop : (n : ℕ) {bs : List ℕ} → AllBytes bs → AllBytes (drop n bs)
bytes_drop n {bs} h = record { each = λ i. rw (get_or-drop n bs i 0) (h.each (n + i)) }

-- ---- unsigned

wider : (n : ℕ) → 2 ^ (8 * suc n) ≡ 256 * 2 ^ (8 * n)
wider n = let e : 8 * suc n ≡ 8 + 8 * n = omega arith in ap (λ (k : ℕ). 2 ^ k) e ∙ pow-add 2 8 (8 * n)

pub big_endian_below : (bs : List ℕ) → AllBytes bs → big_endian bs < 2 ^ (8 * length bs)
unfolding big_endian
big_endian_below [] h = omega arith
big_endian_below (b ∷ bs) h =
    let p = 2 ^ (8 * length bs) in
    let l : suc b * p ≤ 256 * p = mul-le-mul_right p (h.each 0) in
    omega (arith, big_endian_below bs (bytes_tail h), suc-mul b p, wider (length bs))

pub big_endian_two : (a b : ℕ) → big_endian (a ∷ b ∷ []) ≡ a * 256 + b
unfolding big_endian
big_endian_two a b = omega arith

pub big_endian_four : (a b c d : ℕ) → big_endian (a ∷ b ∷ c ∷ d ∷ []) ≡ a * 16777216 + b * 65536 + c * 256 + d
unfolding big_endian
big_endian_four a b c d = omega arith

-- a zero byte in front alters nothing
pub big_endian_zero : (bs : List ℕ) → big_endian (0 ∷ bs) ≡ big_endian bs
unfolding big_endian
big_endian_zero bs = omega arith

-- bytes are told by their value and their number
pub big_endian_injective : (xs ys : List ℕ) → AllBytes xs → AllBytes ys → length xs ≡ length ys → big_endian xs ≡ big_endian ys → xs ≡ ys
unfolding big_endian
big_endian_injective [] [] h k l e = refl
big_endian_injective [] (y ∷ ys) h k l e = let z : ⊥ = omega arith in absurd z
big_endian_injective (x ∷ xs) [] h k l e = let z : ⊥ = omega arith in absurd z
big_endian_injective (x ∷ xs) (y ∷ ys) h k l e =
    let m : length xs ≡ length ys = omega arith in
    let p = 8 * length xs in
    let r : big_endian xs < 2 ^ p = big_endian_below xs (bytes_tail h) in
    let q : big_endian ys < 2 ^ p = subst (λ (n : ℕ). big_endian ys < 2 ^ (8 * n)) (sym m) (big_endian_below ys (bytes_tail k)) in
    let f : x * 2 ^ p + big_endian xs ≡ y * 2 ^ p + big_endian ys =
    subst (λ (n : ℕ). x * 2 ^ p + big_endian xs ≡ y * 2 ^ (8 * n) + big_endian ys) (sym m) e in
    let first : x ≡ y = sym (high x p r) ∙ ap (λ (n : ℕ). n / 2 ^ p) f ∙ high y p q in
    let rest : big_endian xs ≡ big_endian ys = sym (low x p r) ∙ ap (λ (n : ℕ). n % 2 ^ p) f ∙ low y p q in
    let tail : xs ≡ ys = big_endian_injective xs ys (bytes_tail h) (bytes_tail k) m rest in
    cc

-- ---- two's complement

-- as code has it: by the half of the width's power
pub twos_complement_low : (w n : ℕ) → 2 * n < 2 ^ w → twos_complement w n ≡ pos n
unfolding twos_complement
twos_complement_low w n h = rw (lt-ltb (2 * n) (2 ^ w) h)

pub twos_complement_high : (w n : ℕ) → 2 ^ w ≤ 2 * n → twos_complement w n ≡ pos n -ℤ pos (2 ^ w)
unfolding twos_complement
twos_complement_high w n h = rw (le-ltb (2 * n) (2 ^ w) h)

-- z is in the range of w bits, and n up to a multiple of 2 ^ w
pub record Complement (w n : ℕ) (z : ℤ) : Type 0 where
  pub above : 2 * neg_part z ≤ 2 ^ w
  pub below : 2 * pos_part z < 2 ^ w
  pub carry : ℕ
  pub same : pos_part z + 2 ^ w * carry ≡ n + neg_part z

pub twos_complement_range : (w n : ℕ) → n < 2 ^ w → Complement w n (twos_complement w n)
twos_complement_range w n h = by (ltb (2 * n) (2 ^ w)) refl
  where
    by : (t : Bool) → ltb (2 * n) (2 ^ w) ≡ t → Complement w n (twos_complement w n)
    by true e =
        let l = ltb-true (2 * n) (2 ^ w) e in
        rw (twos_complement_low w n l) (record { above = omega arith; below = l; carry = 0; same = omega arith })
    by false e =
        let l = ltb-false (2 * n) (2 ^ w) e in
        let z = pos n -ℤ pos (2 ^ w) in
        let s = sub_parts (pos n) (pos (2 ^ w)) in
        let a = parts_apart z in
        rw (twos_complement_high w n l) (record { above = omega arith; below = omega arith; carry = 1; same = omega arith })

pub signed_bytes_range : (bs : List ℕ) → AllBytes bs → Complement (8 * length bs) (big_endian bs) (signed_bytes bs)
unfolding signed_bytes
signed_bytes_range bs h = twos_complement_range (8 * length bs) (big_endian bs) (big_endian_below bs h)

-- as the machine reads the bits of a whole width
pub read_signed : (v : Width) (n : ℕ) → n < 2 ^ bits v → to_z v n ≡ twos_complement (bits v) n
read_signed v n h = by (ltb n (2 ^ hbits v)) refl
  where
    by : (t : Bool) → ltb n (2 ^ hbits v) ≡ t → to_z v n ≡ twos_complement (bits v) n
    by true e =
        let l = ltb-true n (2 ^ hbits v) e in
        to_z_pos v n l ∙ sym (twos_complement_low (bits v) n (omega (arith, pow-bits v)))
    by false e =
        let l = ltb-false n (2 ^ hbits v) e in
        let k : ℕ = 2 ^ bits v - suc n in
        let back : n ≡ 2 ^ bits v - suc k = omega arith in
        ap (to_z v) back
        ∙ to_z-neg v k (omega (arith, pow-bits v))
        ∙ parts_ext (negsuc k) (pos n -ℤ pos (2 ^ bits v)) (omega (arith, sub_parts (pos n) (pos (2 ^ bits v))))
        ∙ sym (twos_complement_high (bits v) n (omega (arith, pow-bits v)))

pub signed_two : (a b : ℕ) → a < 256 → b < 256 → cast_signed w16 (from_be_bytes w16 (a ∷ b ∷ [])) ≡ signed_bytes (a ∷ b ∷ [])
unfolding signed_bytes
signed_two a b ha hb =
    let n : from_be_bytes w16 (a ∷ b ∷ []) ≡ big_endian (a ∷ b ∷ []) = omega (arith, big_endian_two a b) in
    read_signed w16 (from_be_bytes w16 (a ∷ b ∷ [])) (omega arith) ∙ ap (twos_complement 16) n

-- a reading at the top of four bytes, shifted down
pub signed_three : (a b c : ℕ) → a < 256 → b < 256 → c < 256
    → shr_z (cast_signed w32 (from_be_bytes w32 (a ∷ b ∷ c ∷ 0 ∷ []))) 256 ≡ signed_bytes (a ∷ b ∷ c ∷ [])
unfolding signed_bytes
signed_three a b c ha hb hc = by (ltb (2 * n) (2 ^ 24)) refl
  where
    n : ℕ
    n = big_endian (a ∷ b ∷ c ∷ [])

    read : cast_signed w32 (from_be_bytes w32 (a ∷ b ∷ c ∷ 0 ∷ [])) ≡ twos_complement 32 (n * 256)
    read =
        let four = big_endian_four 0 a b c in
        let same : n ≡ big_endian (0 ∷ a ∷ b ∷ c ∷ []) = sym (big_endian_zero (a ∷ b ∷ c ∷ [])) in
        read_signed w32 (from_be_bytes w32 (a ∷ b ∷ c ∷ 0 ∷ [])) (omega arith) ∙ ap (twos_complement 32) (omega arith)

    by : (t : Bool) → ltb (2 * n) (2 ^ 24) ≡ t → shr_z (cast_signed w32 (from_be_bytes w32 (a ∷ b ∷ c ∷ 0 ∷ []))) 256 ≡ twos_complement 24 n
    by true e =
        let l = ltb-true (2 * n) (2 ^ 24) e in
        let exact : n * 256 / 256 ≡ n = omega arith in
        rw (read, twos_complement_low 32 (n * 256) (omega arith), twos_complement_low 24 n l) (ap pos exact)
    by false e =
        let l = ltb-false (2 * n) (2 ^ 24) e in
        let m : ℕ = 2 ^ 24 - suc n in
        let small : n < 2 ^ 24 = omega (arith, big_endian_four 0 a b c, big_endian_zero (a ∷ b ∷ c ∷ [])) in
        let below : pos (n * 256) -ℤ pos (2 ^ 32) ≡ negsuc (m * 256 + 255) =
        parts_ext (pos (n * 256) -ℤ pos (2 ^ 32)) (negsuc (m * 256 + 255)) (omega (arith, sub_parts (pos (n * 256)) (pos (2 ^ 32)))) in
        let exact : (m * 256 + 255) / 256 ≡ m = omega arith in
        rw (read, twos_complement_high 32 (n * 256) (omega arith), below, exact, twos_complement_high 24 n l)
        (parts_ext (negsuc m) (pos n -ℤ pos (2 ^ 24)) (omega (arith, sub_parts (pos n) (pos (2 ^ 24)))))
