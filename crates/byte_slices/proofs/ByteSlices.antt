-- Laws of copying, and of the place of a byte, seen from one place and from the next. Assumes nothing.
use mathlib.Core.Path.{◌≡◌, refl, sym, ap, ◌∙◌}
use mathlib.Core.List.{List, [], ◌∷◌, ◌++◌}
use borrow.Author.Tests.{ltb-false, lt-ltb}
use lib.Dec.{ltb}
use Prim.Native.Nat.compare
use Prim.Native.Nat.{ℕ, zero, suc, ◌+◌, ◌≤◌}
use native.Mathlib.Nat.{zero-add}
use native.Mathlib.Omega.{arith}
use lib.ListN.{length, take, drop}
use lib.Seq.{take_all, take-length}
use Rattle.std.specs.Prelude.{nat_eq, nat_lt, Bool, true, false, cond, Some, None, unwrap_or, not, ◌||◌}
use Rattle.std.specs.List.{position_or_len, position, list_any}
use Rattle.std.proofs.lemmas.List.Recursion.{is_position_or_len}
use Rattle.std.proofs.lemmas.List.Sums.{prefix_len-le-length}
use Rattle.byte_slices.specs.ByteSlices.{copied, index_after, index_of}

-- a source that is no longer than the target is copied whole
pub copied_whole : (s b : List ℕ) → length s ≤ length b → copied s b ≡ take (length s) s ++ drop (length s) b
copied_whole s b h = ap (λ (l : List ℕ). l ++ drop (length s) b) (take_all (length b) s h ∙ sym (take-length s))

-- the place of a byte, as an iterator's `position` has it
pub index_position : (b : ℕ) (s : List ℕ) → index_of b s ≡ position_or_len (λ x. nat_eq x b) s
unfolding index_of index_after
index_position b = is_position_or_len (index_of b) (λ x. nat_eq x b) refl (λ x s. by (nat_eq x b) (index_of b s))
  where
    by : (t : Bool) (n : ℕ) → index_after t n ≡ cond t 0 (1 + n)
    by true n = refl
    by false n = omega arith

-- it stands within the bytes, or at their end
pub index_within : (b : ℕ) (s : List ℕ) → index_of b s ≤ length s
unfolding index_of index_after
index_within b [] = omega arith
index_within b (x ∷ s) = by (nat_eq x b) (index_within b s)
  where
    by : (t : Bool) → index_of b s ≤ length s → index_after t (index_of b s) ≤ suc (length s)
    by true h = omega arith
    by false h = omega arith

-- where `position` finds none, the length stands for it
pub position_given : {X : Type 0} (p : X → Bool) (xs : List X) → unwrap_or (position p xs) (length xs) ≡ position_or_len p xs
position_given p xs = by (nat_lt (position_or_len p xs) (length xs)) refl
  where
    by : (t : Bool) → nat_lt (position_or_len p xs) (length xs) ≡ t → unwrap_or (cond t (Some (position_or_len p xs)) None) (length xs) ≡ position_or_len p xs
    by true e = refl
    by false e = omega (arith, prefix_len-le-length (λ x. not (p x)) xs, ltb-false _ _ e)

pub index_found : (b : ℕ) (s : List ℕ) → unwrap_or (position (λ x. nat_eq x b) s) (length s) ≡ index_of b s
index_found b s = position_given (λ x. nat_eq x b) s ∙ sym (index_position b s)

-- whether it stands among them
pub index_any : (b : ℕ) (s : List ℕ) → list_any (λ x. nat_eq x b) s ≡ ltb (index_of b s) (length s)
unfolding index_of index_after
index_any b [] = refl
index_any b (x ∷ s) = by (nat_eq x b) (index_any b s)
  where
    by : (t : Bool) → list_any (λ x. nat_eq x b) s ≡ ltb (index_of b s) (length s) → (t || list_any (λ x. nat_eq x b) s) ≡ ltb (index_after t (index_of b s)) (suc (length s))
    by true e = sym (lt-ltb 0 (suc (length s)) (omega arith))
    by false e = rw (compare.suc-suc (suc (index_of b s)) (length s)) e

-- among the first n it stands no later
pub index_take : (b n : ℕ) (s : List ℕ) → index_of b (take n s) ≤ index_of b s
unfolding index_of index_after
index_take b zero s = omega arith
index_take b (suc n) [] = omega arith
index_take b (suc n) (x ∷ s) = by (nat_eq x b) (index_take b n s)
  where
    by : (t : Bool) → index_of b (take n s) ≤ index_of b s → index_after t (index_of b (take n s)) ≤ index_after t (index_of b s)
    by true h = omega arith
    by false h = omega arith

-- where b isn't among the first n, it is sought behind them
pub index_behind : (b : ℕ) (u : List ℕ) (n : ℕ) → n ≤ index_of b u → n + index_of b (drop n u) ≡ index_of b u
unfolding index_of index_after
index_behind b u zero h = zero-add (index_of b u)
index_behind b [] (suc n) h = absurd (omega arith)
index_behind b (x ∷ u) (suc n) h = by (nat_eq x b) h (index_behind b u n)
  where
    by :
        (t : Bool) → suc n ≤ index_after t (index_of b u) → (n ≤ index_of b u → n + index_of b (drop n u) ≡ index_of b u)
        → suc n + index_of b (drop n u) ≡ index_after t (index_of b u)
    by true h behind = absurd (omega arith)
    by false h behind = omega (arith, behind (omega arith))
