-- Laws of the numbers of a line, as the code reads them.
use Prim.Native.Nat.{ℕ, ◌+◌, ◌-◌, ◌*◌, ◌≤◌, ◌<◌, min}
use native.Mathlib.Omega.{arith}
use mathlib.Core.Bool.{Bool, true, false, not, ◌&&◌, ◌||◌}
use mathlib.Core.List.{List, [], ◌∷◌}
use mathlib.Core.Path.{◌≡◌, refl, sym, ap, ◌∙◌}
use lib.Dec.{eqb}
use lib.IntN.{pos, neg_ℤ}
use lib.ListN.{length, get_or, take, drop}
use borrow.Author.Tests.{eq-eqb, ne_eqb}
use Rattle.std.specs.List.{list_all, enumerate_from}
use Rattle.setup_line.specs.SetupLine.{digit_value, decimal_from, decimal_value}
use Rattle.rehearsal.specs.RehearsalLine.{digits_written, number_written, number_value, nearest, field_written, all_written}
use Rattle.integers.proofs.Buffers.{to_end}
use Rattle.setup_line.proofs.Digits.{decimal_next, decimal_end}
use Rattle.rehearsal.proofs.Nearest.{positive_capped, negative_capped}

-- ---- the number that digits write, up to 2^32

-- a number that is past it stays past it
pub capped_from : (n : ℕ) (s : List ℕ) → min (decimal_from (min n 4294967296) s) 4294967296 ≡ min (decimal_from n s) 4294967296
unfolding decimal_from
capped_from n [] = omega arith
capped_from n (b ∷ s) =
    let d = digit_value b in
    let m = min n 4294967296 in
    let e : min (m * 10 + d) 4294967296 ≡ min (n * 10 + d) 4294967296 = omega arith in
    sym (capped_from (m * 10 + d) s) ∙ ap (λ (k : ℕ). min (decimal_from k s) 4294967296) e ∙ capped_from (n * 10 + d) s

-- ---- a text by its first byte

pub number_none : (s : List ℕ) → length s ≡ 0 → number_written s ≡ false
unfolding number_written
number_none [] e = refl
number_none (b ∷ t) e = absurd (omega arith)

pub number_some : (s : List ℕ) → number_written s ≡ true → 0 < length s
unfolding number_written
number_some [] e = let z : ◌≡◌ {A = ℕ} 0 1 = cc in absurd (omega arith)
number_some (b ∷ t) e = omega arith

pub number_minus : (s : List ℕ) → 0 < length s → get_or s 0 0 ≡ 0x2D → number_written s ≡ (digits_written (drop 1 s) && not (eqb (get_or (drop 1 s) 0 0) 0x30))
unfolding number_written
number_minus [] h e = absurd (omega arith)
number_minus (b ∷ t) h e = rw (eq-eqb b 0x2D e)

pub number_plain : (s : List ℕ) → 0 < length s → (get_or s 0 0 ≡ 0x2D → ⊥) → number_written s ≡ digits_written s
unfolding number_written
number_plain [] h e = absurd (omega arith)
number_plain (b ∷ t) h e = rw (ne_eqb b 0x2D e)

-- its value
pub value_none : (s : List ℕ) → number_written s ≡ false → number_value s ≡ pos 0
unfolding number_value
value_none [] e = refl
value_none (b ∷ t) e = rw e

pub value_minus : (s : List ℕ) → number_written s ≡ true → get_or s 0 0 ≡ 0x2D → number_value s ≡ neg_ℤ (pos (decimal_value (drop 1 s)))
unfolding number_value
value_minus [] w e = absurd (omega (arith, number_some [] w))
value_minus (b ∷ t) w e = rw (w, eq-eqb b 0x2D e)

pub value_plain : (s : List ℕ) → number_written s ≡ true → (get_or s 0 0 ≡ 0x2D → ⊥) → number_value s ≡ pos (decimal_value s)
unfolding number_value
value_plain [] w e = absurd (omega (arith, number_some [] w))
value_plain (b ∷ t) w e = rw (w, ne_eqb b 0x2D e)

-- ---- the fields with their places

-- a field, behind its place, is as it should be
abbrev pub is_written : ℕ × List ℕ → Bool
is_written p = field_written p.1 || (eqb p.0 3 && eqb (length p.1) 1 && eqb (get_or p.1 0 0) 0x3F)

-- all of them, one by one
pub written_each : (k : ℕ) (fs : List (List ℕ)) → all_written k fs ≡ list_all is_written (enumerate_from k fs)
unfolding all_written
written_each k [] = refl
written_each k (f ∷ fs) = ap (λ (t : Bool). is_written (k, f) && t) (written_each (k + 1) fs)

-- ---- the value of a text from what the code has of its size

module _ (s : List ℕ) {m : ℕ} (w : number_written s ≡ true) where
  pub minus_nearest :
      get_or s 0 0 ≡ 0x2D → m ≡ min (decimal_value (take (length s - 1) (drop 1 s))) 4294967296
      → nearest (neg_ℤ (pos m)) ≡ nearest (number_value s)
  minus_nearest e q =
      ap (λ (n : ℕ). nearest (neg_ℤ (pos n))) (q ∙ ap (λ (t : List ℕ). min (decimal_value t) 4294967296) (to_end s 1))
      ∙ negative_capped (decimal_value (drop 1 s))
      ∙ sym (ap nearest (value_minus s w e))

  pub plain_nearest : (get_or s 0 0 ≡ 0x2D → ⊥) → m ≡ min (decimal_value s) 4294967296 → nearest (pos m) ≡ nearest (number_value s)
  plain_nearest e q = ap (λ (n : ℕ). nearest (pos n)) q ∙ positive_capped (decimal_value s) ∙ sym (ap nearest (value_plain s w e))

-- ---- a turn of the loop over the digits, and its end

module _ (s : List ℕ) (i n : ℕ) where
  pub capped_turn :
      i < length s → {d m : ℕ} → d ≡ digit_value (get_or s i 0) → m ≡ min (n * 10 + d) 4294967296
      → min (decimal_from m (drop (i + 1) s)) 4294967296 ≡ min (decimal_from n (drop i s)) 4294967296
  capped_turn h {d} {m} e q =
      ap (λ (k : ℕ). min (decimal_from k (drop (i + 1) s)) 4294967296) q
      ∙ capped_from (n * 10 + d) (drop (i + 1) s)
      ∙ ap (λ (k : ℕ). min (decimal_from (n * 10 + k) (drop (i + 1) s)) 4294967296) e
      ∙ sym (ap (λ (k : ℕ). min k 4294967296) (decimal_next s i n h))

  pub capped_end : length s ≤ i → n ≤ 4294967296 → n ≡ min (decimal_from n (drop i s)) 4294967296
  capped_end h l = omega (arith, decimal_end s i n h)
