-- The check four bytes at a time: the zero bytes make the last four whole.
-- Assumes nothing.
use mathlib.Core.Path.{◌≡◌, refl, sym, ap, ◌∙◌}
use mathlib.Core.List.{List, [], ◌∷◌, ◌++◌}
use Prim.Native.Nat.{ℕ, zero, suc, ◌+◌, ◌-◌, ◌*◌, ◌%◌, ◌≤◌, ◌<◌}
use native.Mathlib.Omega.{arith}
use lib.ListN.{length, get_or, take, drop, replicate}
use lib.Seq.{drop-drop}
use Rattle.std.specs.Simd.{first_chunks}
use Rattle.crc.specs.Check.{register, padding, covered}
use Rattle.crc.proofs.Laws.{register_append}

-- a list's first four elements
abbrev pub four : List ℕ → List ℕ
four u = get_or u 0 0 ∷ get_or u 1 0 ∷ get_or u 2 0 ∷ get_or u 3 0 ∷ []

four_taken : (u : List ℕ) → four (take 4 u) ≡ four u
four_taken [] = refl
four_taken (a ∷ []) = refl
four_taken (a ∷ b ∷ []) = refl
four_taken (a ∷ b ∷ c ∷ []) = refl
four_taken (a ∷ b ∷ c ∷ d ∷ v) = refl

-- the i-th word of a list
word_at : (k i : ℕ) (s : List ℕ) → i < k → get_or (first_chunks 4 k s) i [] ≡ take 4 (drop (i * 4) s)
word_at zero i s h = absurd (omega arith)
word_at (suc k) zero s h = refl
word_at (suc k) (suc i) s h =
    let e : 4 + i * 4 ≡ suc i * 4 = omega arith in
    word_at k i (drop 4 s) (omega arith) ∙ ap (take 4) (drop-drop (i * 4) 4 s ∙ ap (λ (n : ℕ). drop n s) e)

pub word_four : (k i : ℕ) (s : List ℕ) → i < k → four (get_or (first_chunks 4 k s) i []) ≡ four (drop (i * 4) s)
word_four k i s h = ap four (word_at k i s h) ∙ four_taken (drop (i * 4) s)

padding_same : (n : ℕ) → padding 4 (suc (suc (suc (suc n)))) ≡ padding 4 n
unfolding padding
padding_same n =
    let e : (4 - suc (suc (suc (suc n))) % 4) % 4 ≡ (4 - n % 4) % 4 = omega arith in
    ap (λ (k : ℕ). replicate k 0) e

-- four bytes need no zero bytes
covered_four : (u : List ℕ) → 4 ≤ length u → covered 4 u ≡ four u ++ covered 4 (drop 4 u)
unfolding covered
covered_four [] h = absurd (omega arith)
covered_four (a ∷ []) h = absurd (omega arith)
covered_four (a ∷ b ∷ []) h = absurd (omega arith)
covered_four (a ∷ b ∷ c ∷ []) h = absurd (omega arith)
covered_four (a ∷ b ∷ c ∷ d ∷ v) h = ap (λ (l : List ℕ). a ∷ b ∷ c ∷ d ∷ v ++ l) (padding_same (length v))

-- fewer than four are made four
pub covered_few : (u : List ℕ) → 0 < length u → length u < 4 → covered 4 u ≡ get_or u 0 0 ∷ get_or u 1 0 ∷ get_or u 2 0 ∷ 0 ∷ []
unfolding covered padding
covered_few [] h l = absurd (omega arith)
covered_few (a ∷ []) h l = refl
covered_few (a ∷ b ∷ []) h l = refl
covered_few (a ∷ b ∷ c ∷ []) h l = refl
covered_few (a ∷ b ∷ c ∷ d ∷ v) h l = absurd (omega arith)

pub covered_none : (u : List ℕ) → length u ≡ 0 → covered 4 u ≡ []
unfolding covered padding
covered_none [] h = refl
covered_none (a ∷ u) h = absurd (omega arith)

-- one word: r is the register after it
pub four_next :
    (w p c r : ℕ) (u : List ℕ) → 4 ≤ length u → r ≡ register w p c (four u) → register w p r (covered 4 (drop 4 u)) ≡ register w p c (covered 4 u)
four_next w p c r u h e =
    ap (λ (n : ℕ). register w p n (covered 4 (drop 4 u))) e
    ∙ sym (register_append w p c (four u) (covered 4 (drop 4 u)))
    ∙ ap (register w p c) (sym (covered_four u h))
