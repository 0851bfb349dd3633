-- Numbers as they are read off bytes, and bytes as they are read off a record. Assumes nothing.
use Prim.Native.Nat.{ℕ, zero, suc, ◌+◌, ◌-◌, ◌*◌, ◌^◌, ◌<◌}
use mathlib.Core.Bool.{Bool, true, false}
use mathlib.Core.Path.{◌≡◌, refl, sym, ap, ap₂, ◌∙◌, subst}
use mathlib.Core.List.{List, ◌∷◌}
use native.Mathlib.Nat.{add-zero}
use native.Mathlib.Numerals.{add-one}
use native.Mathlib.Omega.{arith}
use borrow.Author.Tests.{ltb-true, ltb-false}
use denote.Param.Members.{Called, Mut}
use lib.Dec.{ltb}
use lib.IntN.{pos, negsuc, ◌-ℤ◌}
use lib.ListN.{length, get_or, drop}
use lib.Seq.{drop-cons}
use mir.Syntax.{Width}
use mir.Val.{bits, hbits, to_z}
use mir.ValLaws.{to_z_pos}
use Rattle.std.proofs.lemmas.List.{drop_all}
use Rattle.std.specs.Array.{IsFromFnResult, IsFromFnResultFrom}
use Rattle.integers.specs.Bytes.{twos_complement}
use Rattle.integers.proofs.Bytes.{twos_complement_low, twos_complement_high}
use Rattle.integers.proofs.Parts.{sub_parts, parts_ext}
use Rattle.wire.specs.Fields.{window}
use Rattle.probe.specs.Records.{short_at, word_at, long_at}

-- ---- two's complement

-- the bits of a signed number of that width
pub complement : (v : Width) (w n : ℕ) → 2 ^ w ≡ 2 * 2 ^ hbits v → 2 ^ bits v ≡ 2 ^ w → n < 2 ^ w → to_z v n ≡ twos_complement w n
complement v w n halves whole h = by (ltb n (2 ^ hbits v)) refl
  where
    by : (t : Bool) → ltb n (2 ^ hbits v) ≡ t → to_z v n ≡ twos_complement w n
    by true e = let l = ltb-true n (2 ^ hbits v) e in to_z_pos v n l ∙ sym (twos_complement_low w n (omega arith))
    by false e =
        let l = ltb-false n (2 ^ hbits v) e in
        rw e (parts_ext (negsuc (2 ^ bits v - suc n)) (pos n -ℤ pos (2 ^ w)) (omega (arith, sub_parts (pos n) (pos (2 ^ w)))))
        ∙ sym (twos_complement_high w n (omega arith))

-- ---- the least significant byte first

module _ (s : List ℕ) (i : ℕ) where
  -- the place of a byte behind others, one by one or by its number
  pub short_read : get_or s i 0 + get_or s (suc i) 0 * 256 ≡ short_at s i
  unfolding short_at
  short_read = rw (add-one i) refl

  pub word_read :
      get_or s i 0 + get_or s (suc i) 0 * 256 + get_or s (suc (suc i)) 0 * 65536 + get_or s (suc (suc (suc i))) 0 * 16777216 ≡ word_at s i
  unfolding word_at short_at
  word_read =
      let one : i + 1 ≡ suc i = omega arith in
      let two : i + 2 ≡ suc (suc i) = omega arith in
      let three : suc (suc i) + 1 ≡ suc (suc (suc i)) = omega arith in
      rw (one, two, three) (omega arith)

pub long_read :
    (s : List ℕ) (i : ℕ)
    → get_or s i 0 + get_or s (suc i) 0 * 256 + get_or s (suc (suc i)) 0 * 65536 + get_or s (suc (suc (suc i))) 0 * 16777216
    + get_or s (suc (suc (suc (suc i)))) 0 * 4294967296
    + get_or s (suc (suc (suc (suc (suc i))))) 0 * 1099511627776
    + get_or s (suc (suc (suc (suc (suc (suc i)))))) 0 * 281474976710656
    + get_or s (suc (suc (suc (suc (suc (suc (suc i))))))) 0 * 72057594037927936
    ≡ long_at s i
unfolding long_at
long_read s i =
    let four : i + 4 ≡ suc (suc (suc (suc i))) = omega arith in
    rw four (omega (arith, word_read s i, word_read s (suc (suc (suc (suc i))))))

-- ---- an array made by a closure that reads the bytes from a place on

module _ {F : Type 0} (g : Mut F (ℕ × Unit {0}) ℕ) (f : F) (s : List ℕ) (at : ℕ)
    (reads : (k b : ℕ) (q : F) → Called g f (k, tt) b q → (q ≡ f) × (b ≡ get_or s (at + k) 0)) where
  made_from : (n k : ℕ) (p : F) (ys : List ℕ) → p ≡ f → length ys ≡ k + n → IsFromFnResultFrom g p ys k n → drop k ys ≡ window n (at + k) s
  made_from zero k p ys e l each = drop_all k ys (omega arith)
  made_from (suc n) k p ys e l (q, b, (_, element), call, rest) =
      let answer = reads k b q (subst (λ (x : F). Called g x (k, tt) b q) e call) in
      let next : at + (k + 1) ≡ suc (at + k) = omega arith in
      drop-cons ys k 0 (omega arith)
      ∙ ap₂ (λ (x : ℕ) (xs : List ℕ). x ∷ xs) (element 0 ∙ answer.1)
      (ap (λ (m : ℕ). drop m ys) (sym (add-one k)) ∙ made_from n (k + 1) q ys answer.0 (omega arith) rest ∙ ap (λ (m : ℕ). window n m s) next)

  pub made_window : (n : ℕ) (ys : List ℕ) → IsFromFnResult g f ys n → ys ≡ window n at s
  made_window n ys m = made_from n 0 f ys refl (omega (arith, m.long)) m.each ∙ ap (λ (k : ℕ). window n k s) (add-zero at)
