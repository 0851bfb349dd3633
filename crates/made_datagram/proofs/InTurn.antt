-- The pair of laws over the list of parts: what is written in turn is read as the same fields, and bytes cut by the widths and joined again are the
-- bytes (02, 2.1; 01, Layout by identifier).
use Prim.Native.Nat.{ℕ, ◌+◌, ◌≤◌}
use native.Mathlib.Nat.{add-zero, zero-add}
use native.Mathlib.Omega.{arith}
use mathlib.Core.Bool.{Bool, true, false, not, ◌&&◌, ◌||◌, cond}
use mathlib.Core.List.{List, [], ◌∷◌, ◌++◌, map, append_assoc}
use mathlib.Core.Path.{◌≡◌, refl, sym, ap, ap₂, ◌∙◌}
use lib.Dec.{eqb}
use lib.ListN.{length, take, drop, length-append}
use lib.Seq.{take_at, drop_at, drop-drop, take-add}
use borrow.Author.Tests.{eqb-true, eq-eqb, not-true}
use Rattle.integers.specs.Bytes.{joined}
use Rattle.integers.proofs.Booleans.{and_split, or_true}
use Rattle.setup.specs.Layout.{Part, widths, sum, size, bytes, place, carries, offset}
use Rattle.setup.proofs.Layouts.{same_part}
use Rattle.wire.specs.Fields.{window, cut, fields_of_part}
use Rattle.wire.proofs.FieldPlaces.{window_within}
use Rattle.made_datagram.specs.Making.{in_turn}

-- ---- what is written is read

joined_length : (fs : List (List ℕ)) → length (joined fs) ≡ sum (map length fs)
joined_length [] = refl
joined_length (f ∷ fs) = omega (arith, length-append f (joined fs), joined_length fs)

-- a field behind other bytes
window_at : (f before behind : List ℕ) → window (length f) (length before) (before ++ (f ++ behind)) ≡ f
window_at f before behind =
    window_within (length f) (length before) (before ++ (f ++ behind)) (omega (arith, length-append before (f ++ behind), length-append f behind))
    ∙ ap (take (length f)) (drop_at before (f ++ behind) (length before) refl)
    ∙ take_at f behind (length f) refl

-- the fields of a part behind other bytes
cut_at : (fs : List (List ℕ)) (before behind : List ℕ) → cut (map length fs) (length before) (before ++ (joined fs ++ behind)) ≡ fs
cut_at [] before behind = refl
cut_at (f ∷ fs) before behind =
    let rest = joined fs ++ behind in
    let s : before ++ ((f ++ joined fs) ++ behind) ≡ before ++ (f ++ rest) = ap (λ l. before ++ l) (append_assoc f (joined fs) behind) in
    let t : before ++ (f ++ rest) ≡ (before ++ f) ++ rest = sym (append_assoc before f rest) in
    rw s
    (ap₂ ◌∷◌ (window_at f before rest)
    (rw (t, ← length-append before f) (cut_at fs (before ++ f) behind)))

-- bytes that stand in a list at a place
record Stands (s : List ℕ) (at : ℕ) (f : List ℕ) : Type 0 where
  before : List ℕ
  behind : List ℕ
  whole : s ≡ before ++ (f ++ behind)
  there : length before ≡ at

module _ (fields : Part → List (List ℕ)) (wide : (p : Part) → map length (fields p) ≡ widths p) where
  part_length : (p : Part) → length (joined (fields p)) ≡ size p
  part_length p = joined_length (fields p) ∙ ap sum (wide p)

  pub in_turn_length : (ps : List Part) → length (in_turn fields ps) ≡ bytes ps
  in_turn_length [] = refl
  in_turn_length (p ∷ ps) = omega (arith, length-append (joined (fields p)) (in_turn fields ps), part_length p, in_turn_length ps)

  -- a part that is carried stands where its offset says
  stands : (ps : List Part) (p : Part) (rest : List ℕ) → carries ps p ≡ true → Stands (in_turn fields ps ++ rest) (offset ps p) (joined (fields p))
  stands [] p rest c = let z : ◌≡◌ {A = ℕ} 0 1 = cc in absurd (omega arith)
  stands (q ∷ qs) p rest c = by (eqb (place p) (place q)) refl c (stands qs p rest)
    where
      by : (t : Bool) → eqb (place p) (place q) ≡ t → (t || carries qs p) ≡ true
          → (carries qs p ≡ true → Stands (in_turn fields qs ++ rest) (offset qs p) (joined (fields p)))
          → Stands ((joined (fields q) ++ in_turn fields qs) ++ rest) (cond t 0 (size q + offset qs p)) (joined (fields p))
      by true e h next =
          record {
            before = [];
            behind = in_turn fields qs ++ rest;
            whole =
                append_assoc (joined (fields q)) (in_turn fields qs) rest
                ∙ ap (λ r. joined (fields r) ++ (in_turn fields qs ++ rest)) (sym (same_part p q (eqb-true (place p) (place q) e)));
            there = refl;
          }
      by false e h next =
          let n = next h in
          record {
            before = joined (fields q) ++ n.before;
            behind = n.behind;
            whole =
                append_assoc (joined (fields q)) (in_turn fields qs) rest
                ∙ ap (λ l. joined (fields q) ++ l) n.whole
                ∙ sym (append_assoc (joined (fields q)) n.before (joined (fields p) ++ n.behind));
            there = omega (arith, length-append (joined (fields q)) n.before, part_length q, n.there);
          }

  -- what is written in turn, whatever follows it, is read as the same fields
  pub written_read : (ps : List Part) (p : Part) (rest : List ℕ) → carries ps p ≡ true → fields_of_part ps (in_turn fields ps ++ rest) p ≡ fields p
  unfolding fields_of_part
  written_read ps p rest c =
      let s = stands ps p rest c in
      rw (c, s.whole, ← s.there, ← wide p) (cut_at (fields p) s.before s.behind)

-- ---- what is read is written

-- two lists of fields that agree on the parts that are written
pub in_turn_same : (f g : Part → List (List ℕ)) (ps : List Part) → ((p : Part) → carries ps p ≡ true → f p ≡ g p) → in_turn f ps ≡ in_turn g ps
in_turn_same f g [] h = refl
in_turn_same f g (q ∷ qs) h =
    ap₂ (λ x y. joined x ++ y) (h q (here q qs)) (in_turn_same f g qs (λ p c. h p (later p q qs c)))
  where
    here : (q : Part) (qs : List Part) → carries (q ∷ qs) q ≡ true
    here q qs = rw (eq-eqb (place q) (place q) refl)

    later : (p q : Part) (qs : List Part) → carries qs p ≡ true → carries (q ∷ qs) p ≡ true
    later p q qs c = or_true (eqb (place p) (place q)) c

-- no part stands twice
abbrev pub distinct : List Part → Bool
distinct [] = true
distinct (p ∷ ps) = not (carries ps p) && distinct ps

cut_joined : (ws : List ℕ) (at : ℕ) (s : List ℕ) → at + sum ws ≤ length s → joined (cut ws at s) ≡ take (sum ws) (drop at s)
cut_joined [] at s h = refl
cut_joined (w ∷ ws) at s h =
    rw (window_within w at s (omega arith), cut_joined ws (at + w) s (omega arith), ← drop-drop w at s) (sym (take-add w (sum ws) (drop at s)))

-- the parts from a place on
parts_cut : (ps : List Part) (at : ℕ) (s : List ℕ) (fields : Part → List (List ℕ)) → distinct ps ≡ true → at + bytes ps ≤ length s
    → ((p : Part) → carries ps p ≡ true → fields p ≡ cut (widths p) (at + offset ps p) s) → in_turn fields ps ≡ take (bytes ps) (drop at s)
parts_cut [] at s fields d h same = refl
parts_cut (q ∷ qs) at s fields d h same =
    let once = and_split (not (carries qs q)) (distinct qs) d in
    let first : fields q ≡ cut (widths q) at s =
    same q (rw (eq-eqb (place q) (place q) refl)) ∙ rw (eq-eqb (place q) (place q) refl, add-zero at) in
    let others : (p : Part) → carries qs p ≡ true → fields p ≡ cut (widths p) (at + size q + offset qs p) s =
    λ p c. by p (not-true (carries qs q) once.0) (eqb (place p) (place q)) refl c (same p) in
    rw (first, cut_joined (widths q) at s (omega arith), parts_cut qs (at + size q) s fields once.1 (omega arith) others, ← drop-drop (size q) at s)
    (sym (take-add (size q) (bytes qs) (drop at s)))
  where
    by : (p : Part) → carries qs q ≡ false → (t : Bool) → eqb (place p) (place q) ≡ t → carries qs p ≡ true
        → ((t || carries qs p) ≡ true → fields p ≡ cut (widths p) (at + cond t 0 (size q + offset qs p)) s)
        → fields p ≡ cut (widths p) (at + size q + offset qs p) s
    by p d true e c same =
        let twice : carries qs q ≡ true = ap (carries qs) (sym (same_part p q (eqb-true (place p) (place q) e))) ∙ c in
        let z : ◌≡◌ {A = ℕ} 0 1 = cc in
        absurd (omega arith)
    by p d false e c same =
        let a : at + (size q + offset qs p) ≡ at + size q + offset qs p = omega arith in
        same c ∙ ap (λ (n : ℕ). cut (widths p) n s) a

-- bytes cut by the widths and joined again are the bytes
pub read_written : (ps : List Part) (s : List ℕ) → distinct ps ≡ true → bytes ps ≤ length s → in_turn (fields_of_part ps s) ps ≡ take (bytes ps) s
unfolding fields_of_part
read_written ps s d h = parts_cut ps 0 s (fields_of_part ps s) d (omega arith) (λ p c. rw (c, zero-add (offset ps p)))
