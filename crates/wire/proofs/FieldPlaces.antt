-- The fields of a part by their places: those that the list of parts gives it are those that stand where it begins.
use Prim.Native.Nat.{ℕ, zero, suc, ◌+◌, ◌-◌, ◌≤◌, ◌<◌}
use native.Mathlib.Nat.{add-zero}
use native.Mathlib.Omega.{arith}
use mathlib.Core.Bool.{Bool, true, false, cond}
use mathlib.Core.List.{List, [], ◌∷◌, ◌++◌}
use mathlib.Core.Path.{◌≡◌, refl, sym, ap, ◌∙◌}
use lib.Dec.{eqb, ltb}
use lib.IntN.{ℤ}
use lib.ListN.{length, get_or, take, drop, replicate, drop_of_length-le, get_or-eq_default}
use native.Mathlib.Decide.{dec_lt}
use lib.Seq.{drop-cons, take-nil}
use borrow.Author.Tests.{lt-ltb}
use Rattle.integers.specs.Bytes.{AllBytes, big_endian, signed_bytes}
use Rattle.integers.proofs.Bytes.{bytes_nil, bytes_cons}
use Rattle.setup.specs.Layout.{Part, widths, sum, place, carries, offset, placed, parts_of}
use Rattle.setup.specs.declared.Row.{Row}
use Rattle.setup.proofs.Layouts.{carried_place}
use Rattle.wire.specs.Fields.{window, cut, fields_of_part, unsigned_field, axes}
use Rattle.wire.specs.Places.{fields_at, byte_at}

-- ---- windows

pub window_length : (n at : ℕ) (s : List ℕ) → length (window n at s) ≡ n
window_length zero at s = refl
window_length (suc n) at s = ap suc (window_length n (suc at) s)

pub window_bytes : (n at : ℕ) {s : List ℕ} → AllBytes s → AllBytes (window n at s)
window_bytes zero at h = bytes_nil
window_bytes (suc n) at h = bytes_cons (h.each at) (window_bytes n (suc at) h)

-- one that lies within a list is its own bytes
pub window_within : (n at : ℕ) (s : List ℕ) → at + n ≤ length s → window n at s ≡ take n (drop at s)
window_within zero at s h = refl
window_within (suc n) at s h = rw (drop-cons s at 0 (omega arith), window_within n (suc at) s (omega arith))

-- one is what the list has from there, and zeros beyond its end
pub window_padded : (n at : ℕ) (s : List ℕ) → window n at s ≡ take n (drop at s) ++ replicate (n - length (drop at s)) 0
window_padded zero at s = let none : 0 - length (drop at s) ≡ 0 = omega arith in rw none
window_padded (suc n) at s = by (dec_lt at (length s)) (window_padded n (suc at) s)
  where
    by : Dec (at < length s) → window n (suc at) s ≡ take n (drop (suc at) s) ++ replicate (n - length (drop (suc at) s)) 0
        → window (suc n) at s ≡ take (suc n) (drop at s) ++ replicate (suc n - length (drop at s)) 0
    by (yes l) rest =
        let behind = drop (suc at) s in
        let one_less : suc n - length (get_or s at 0 ∷ behind) ≡ n - length behind = omega arith in
        rw (drop-cons s at 0 l, rest, one_less)
    by (no l) rest =
        let long : length s ≤ at = omega arith in
        let longer : length s ≤ suc at = omega arith in
        let gone : drop at s ≡ [] = drop_of_length-le s long in
        let gone_after : drop (suc at) s ≡ [] = drop_of_length-le s longer in
        let all : n - 0 ≡ n = omega arith in
        let all_of_more : suc n - 0 ≡ suc n = omega arith in
        rw (gone, rest, gone_after, take-nil n, get_or-eq_default s 0 long, all, all_of_more)

pub two_bytes : (at : ℕ) (s : List ℕ) → window 2 at s ≡ get_or s at 0 ∷ get_or s (at + 1) 0 ∷ []
two_bytes at s = let e : suc at ≡ at + 1 = omega arith in ap (λ k. get_or s at 0 ∷ get_or s k 0 ∷ []) e

pub four_bytes : (at : ℕ) (s : List ℕ) → window 4 at s ≡ get_or s at 0 ∷ get_or s (at + 1) 0 ∷ get_or s (at + 2) 0 ∷ get_or s (at + 3) 0 ∷ []
four_bytes at s =
    let e : suc at ≡ at + 1 = omega arith in
    let f : suc (suc at) ≡ at + 2 = omega arith in
    let g : suc (suc (suc at)) ≡ at + 3 = omega arith in
    rw (← e, ← f, ← g)

pub one_byte : (s : List ℕ) (at : ℕ) → big_endian (window 1 at s) ≡ get_or s at 0
unfolding big_endian
one_byte s at = omega arith

-- ---- cutting

-- the field k stands behind the fields before it
pub cut_field : (ws : List ℕ) (k at : ℕ) (s : List ℕ) → k < length ws → get_or (cut ws at s) k [] ≡ window (get_or ws k 0) (at + sum (take k ws)) s
cut_field [] k at s h = absurd (omega arith)
cut_field (w ∷ ws) zero at s h = ap (λ n. window w n s) (sym (add-zero at))
cut_field (w ∷ ws) (suc k) at s h =
    let e : at + w + sum (take k ws) ≡ at + (w + sum (take k ws)) = omega arith in
    cut_field ws k (at + w) s (omega arith) ∙ ap (λ n. window (get_or ws k 0) n s) e

-- ---- by places

pub fields_placed : (r : Row) (s : List ℕ) (p : Part) → eqb (place p) 0 ≡ false
    → fields_of_part (parts_of r) s p ≡ fields_at (widths p) (placed (parts_of r) p) s
unfolding fields_of_part fields_at
fields_placed r s p e = rw (carried_place r p e) (by (carries (parts_of r) p))
  where
    by : (b : Bool) → cond b (cut (widths p) (offset (parts_of r) p) s) [] ≡ cond b (cut (widths p) (cond b (offset (parts_of r) p) 0) s) []
    by true = refl
    by false = refl

-- X, Y and Z of w bytes each
pub axes_placed : (w at : ℕ) (s : List ℕ) → 0 < at
    → axes (fields_at (w ∷ w ∷ w ∷ 1 ∷ []) at s)
    ≡ signed_bytes (window w at s) ∷ signed_bytes (window w (at + w) s) ∷ signed_bytes (window w (at + w + w) s) ∷ []
unfolding fields_at
axes_placed w at s h = rw (lt-ltb 0 at h)

byte_at_place : (ws : List ℕ) (k at : ℕ) (s : List ℕ) → k < length ws → get_or ws k 0 ≡ 1
    → unsigned_field (fields_at ws at s) k ≡ byte_at (sum (take k ws)) at s
unfolding fields_at byte_at big_endian
byte_at_place ws k at s h e = by (ltb 0 at)
  where
    by : (b : Bool) → unsigned_field (cond b (cut ws at s) []) k ≡ cond b (get_or s (at + sum (take k ws)) 0) 0
    by true = rw (cut_field ws k at s h, e) (one_byte s (at + sum (take k ws)))
    by false = refl

-- a field of one byte
pub byte_placed : (r : Row) (s : List ℕ) (p : Part) (k : ℕ) → eqb (place p) 0 ≡ false → k < length (widths p) → get_or (widths p) k 0 ≡ 1
    → unsigned_field (fields_of_part (parts_of r) s p) k ≡ byte_at (sum (take k (widths p))) (placed (parts_of r) p) s
byte_placed r s p k e h w = ap (λ fs. unsigned_field fs k) (fields_placed r s p e) ∙ byte_at_place (widths p) k (placed (parts_of r) p) s h w

-- what was read at the place of a part is that part's: X, Y and Z of w bytes each, and a field of one byte
module _ (r : Row) (s : List ℕ) (p : Part) (carried : eqb (place p) 0 ≡ false) where
  pub axes_read : (w : ℕ) {at : ℕ} {xs : List ℤ} → widths p ≡ w ∷ w ∷ w ∷ 1 ∷ [] → at ≡ placed (parts_of r) p
      → xs ≡ axes (fields_at (w ∷ w ∷ w ∷ 1 ∷ []) at s) → xs ≡ axes (fields_of_part (parts_of r) s p)
  axes_read w e here read = read ∙ rw (here, ← e, fields_placed r s p carried)

  pub byte_read : (k : ℕ) {at b : ℕ} → k < length (widths p) → get_or (widths p) k 0 ≡ 1 → at ≡ placed (parts_of r) p
      → b ≡ byte_at (sum (take k (widths p))) at s → b ≡ unsigned_field (fields_of_part (parts_of r) s p) k
  byte_read k h e here read = read ∙ rw (here, byte_placed r s p k carried h e)
