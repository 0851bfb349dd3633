-- Laws of bytes in a buffer: parts of a list as a slice gives them, zeros behind bytes, and bytes written behind others. Assumes nothing.
use Prim.Native.Nat.{ℕ, zero, suc, ◌+◌, ◌-◌, ◌≤◌, ◌<◌}
use mathlib.Core.Path.{◌≡◌, refl, sym, ap, ◌∙◌}
use mathlib.Core.List.{List, [], ◌∷◌, ◌++◌, map, append_assoc, append-nil}
use native.Mathlib.Nat.{add-zero, zero-add, add-suc, suc-add}
use native.Mathlib.Omega.{arith}
use borrow.Rule.Slice.PartMut.{mid_of, put_mid}
use lib.ListN.{length, take, drop, get_or, set, replicate, length-append, length-drop, length-take, length-replicate, drop_of_length-le}
use lib.Seq.{take_all, take-length, take_at, drop_at, drop-drop, set-append_seam, append_snoc, sets, sets-eq, length-sets}
use native.Mathlib.Numerals.{add-one}
use Rattle.std.proofs.lemmas.List.{drop-replicate}
use Rattle.integers.specs.Buffers.{padded, Put}

-- ---- parts

-- a part of a slice to its end
pub to_end : (p : List ℕ) (i : ℕ) → take (length p - i) (drop i p) ≡ drop i p
to_end p i = take_all (length p - i) (drop i p) (omega (arith, length-drop i p))

-- a part of n bytes from a place on
pub part_of : (p : List ℕ) (i n : ℕ) → take (i + n - i) (drop i p) ≡ take n (drop i p)
part_of p i n =
    let e : i + n - i ≡ n = omega arith in
    ap (λ (m : ℕ). take m (drop i p)) e

-- the first n of what is made of each
pub take_map : {A B : Type 0} (f : A → B) (l : List A) (n : ℕ) → take n (map f l) ≡ map f (take n l)
take_map f [] zero = refl
take_map f [] (suc n) = refl
take_map f (x ∷ l) zero = refl
take_map {B = B} f (x ∷ l) (suc n) = ap (λ (m : List B). f x ∷ m) (take_map f l n)

-- what is made of the one at a place
pub get_or_map : {A B : Type 0} (f : A → B) (l : List A) (i : ℕ) (a : A) (b : B) → i < length l → get_or (map f l) i b ≡ f (get_or l i a)
get_or_map f [] i a b h = absurd (omega arith)
get_or_map f (x ∷ l) zero a b h = refl
get_or_map f (x ∷ l) (suc i) a b h = get_or_map f l i a b (omega arith)

-- ---- zeros behind bytes

zero_at : (k j : ℕ) → get_or {A = ℕ} (replicate k 0) j 0 ≡ 0
zero_at zero j = refl
zero_at (suc k) zero = refl
zero_at (suc k) (suc j) = zero_at k j

-- bytes with zeros behind them read as the bytes alone, which read as 0 past their end
pub zeros_behind_at : (s : List ℕ) (k j : ℕ) → get_or (s ++ replicate k 0) j 0 ≡ get_or s j 0
zeros_behind_at [] k j = zero_at k j
zeros_behind_at (x ∷ s) k zero = refl
zeros_behind_at (x ∷ s) k (suc j) = zeros_behind_at s k j

-- the bytes in front of the zeros
pub padded_front : (k n : ℕ) (l : List ℕ) → length l ≡ n → take n (padded k l) ≡ l
padded_front k n l e = take_at l _ n e

-- and the zeros
pub padded_rest : (n : ℕ) (l : List ℕ) → drop (length l) (padded n l) ≡ replicate (n - length l) 0
padded_rest n l = drop_at l (replicate (n - length l) 0) (length l) refl

-- one more byte
padded_snoc : (n : ℕ) (l : List ℕ) (x : ℕ) → length l < n → set (padded n l) (length l) x ≡ padded n (l ++ (x ∷ []))
padded_snoc n l x h = go (n - length l) refl
  where
    go : (m : ℕ) → n - length l ≡ m → set (padded n l) (length l) x ≡ padded n (l ++ (x ∷ []))
    go zero e = absurd (omega arith)
    go (suc m) e =
        let k : n - length (l ++ (x ∷ [])) ≡ m = omega (arith, length-append l (x ∷ [])) in
        rw (e, k) (set-append_seam l 0 (replicate m 0) x ∙ sym (append_snoc l x (replicate m 0)))

-- bytes written behind l, one after the other
pub padded_sets : (n : ℕ) (l p : List ℕ) (k : ℕ) → k ≡ length l → length l + length p ≤ n → sets (padded n l) k p ≡ padded n (l ++ p)
padded_sets n l [] k e h = ap (padded n) (sym (append-nil l))
padded_sets n l (x ∷ p) k e h =
    ap (λ (b : List ℕ). sets b (suc k) p) (ap (λ (m : ℕ). set (padded n l) m x) e ∙ padded_snoc n l x (omega arith))
    ∙ padded_sets n (l ++ (x ∷ [])) p (suc k) (omega (arith, length-append l (x ∷ []))) (omega (arith, length-append l (x ∷ [])))
    ∙ ap (padded n) (append_assoc l (x ∷ []) p)

-- ---- bytes written behind others

pub sets_append : (b : List ℕ) (i : ℕ) (xs ys : List ℕ) → sets b i (xs ++ ys) ≡ sets (sets b i xs) (i + length xs) ys
sets_append b i [] ys = ap (λ (k : ℕ). sets b k ys) (sym (add-zero i))
sets_append b i (x ∷ xs) ys =
    sets_append (set b i x) (suc i) xs ys
    ∙ ap (λ (k : ℕ). sets (sets (set b i x) (suc i) xs) k ys) (suc-add i (length xs) ∙ sym (add-suc i (length xs)))

-- a text at the front of a buffer
pub put_front : (b text : List ℕ) → length text ≤ length b → sets b 0 text ≡ text ++ drop (length text) b
put_front b text h = sets-eq text b 0 (omega arith) ∙ rw (zero-add (length text))

-- and at the front of the part from a place on
pub put_part :
    (b text : List ℕ) (a : ℕ) → a + length text ≤ length b
    → put_mid a (length b - a) b (text ++ drop (length text) (mid_of a (length b - a) b)) ≡ sets b a text
put_part b text a h =
    let none : drop (length b - a) (drop a b) ≡ [] = drop_of_length-le (drop a b) {i = length b - a} (omega (arith, length-drop a b)) in
    ap (λ (l : List ℕ). take a b ++ ((text ++ drop (length text) l) ++ drop (length b - a) (drop a b))) (to_end b a)
    ∙ ap (λ (l : List ℕ). take a b ++ ((text ++ drop (length text) (drop a b)) ++ l)) none
    ∙ ap (λ (l : List ℕ). take a b ++ l) (append-nil (text ++ drop (length text) (drop a b)))
    ∙ ap (λ (l : List ℕ). take a b ++ (text ++ l)) (drop-drop (length text) a b)
    ∙ sym (append_assoc (take a b) text (drop (a + length text) b))
    ∙ sym (sets-eq text b a h)

-- bytes copied to the front of the part of a buffer of n from a place on
pub copied_part :
    (b s : List ℕ) (a n : ℕ) {e : List ℕ} → length b ≡ n → a + length s ≤ n
    → e ≡ take (length s) s ++ drop (length s) (mid_of a (n - a) b) → put_mid a (n - a) b e ≡ sets b a s
copied_part b s a n l h e =
    rw (← l)
    (ap (put_mid a (length b - a) b) (rw (← l) at e ∙ ap (λ (t : List ℕ). t ++ drop (length s) (mid_of a (length b - a) b)) (take-length s))
    ∙ put_part b s a (omega arith))

-- bytes copied to the front of n zeros: the first n of them, with zeros behind where there are fewer
pub copied_front : (n : ℕ) (s : List ℕ) → take (length (replicate {A = ℕ} n 0)) s ++ drop (length s) (replicate n 0) ≡ padded n (take n s)
copied_front n s =
    let left : n - length s ≡ n - length (take n s) = omega (arith, length-take n s) in
    rw (length-replicate {A = ℕ} n 0, drop-replicate {X = ℕ} (length s) n 0, left)

-- ---- texts put into a buffer one behind the other are their joined text, put where the first begins

-- nothing
pub put_none : {b : List ℕ} {at : ℕ} → Put b at [] b at
put_none {b} {at} = record { place = sym (add-zero at); bytes = refl }

-- one byte
pub put_byte : {b : List ℕ} {at x : ℕ} → Put b at (x ∷ []) (set b at x) (at + 1)
put_byte = record { place = refl; bytes = refl }

-- two, as code counts their places
pub put_two : {b : List ℕ} {at x y : ℕ} → Put b at (x ∷ y ∷ []) (set (set b at x) (at + 1) y) (at + 2)
put_two {b} {at} = record { place = refl; bytes = rw (add-one at) }

module _ {b b1 : List ℕ} {at mid : ℕ} {s : List ℕ} (p : Put b at s b1 mid) where
  -- the buffer keeps its length
  pub put_length : length b1 ≡ length b
  put_length = ap length p.bytes ∙ length-sets b at s

  -- a text behind the other
  pub then_put : {b2 : List ℕ} {end : ℕ} {t : List ℕ} → Put b1 mid t b2 end → Put b at (s ++ t) b2 end
  then_put {b2} {end} {t} q =
      record {
        place = omega (arith, p.place, q.place, length-append s t);
        bytes = q.bytes ∙ rw (p.bytes, p.place) (sym (sets_append b at s t));
      }

  -- where there is room for both there is still room for the second
  pub room_then : (t : List ℕ) → at + length (s ++ t) ≤ length b → mid + length t ≤ length b1
  room_then t h = omega (arith, put_length, p.place, length-append s t)

-- where there is room for two texts there is room for the first
pub room_first : (at : ℕ) (s t : List ℕ) {n : ℕ} → at + length (s ++ t) ≤ n → at + length s ≤ n
room_first at s t h = omega (arith, length-append s t)

-- a text put at the front stands there then
pub put_taken : {b text b1 : List ℕ} {n : ℕ} → Put b 0 text b1 n → length text ≤ length b → take n b1 ≡ text
put_taken {b} {text} {b1} {n} p h =
    rw (p.bytes, put_front b text h) (take_at text (drop (length text) b) n (omega (arith, p.place)))
