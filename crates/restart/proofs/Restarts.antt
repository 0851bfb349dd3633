-- The session's count finds a restart exactly where the four stand; every place of the list belongs to one stretch.
-- Assumes nothing.
use Prim.Native.Nat.{ℕ, zero, suc, ◌+◌, ◌≤◌, ◌<◌}
use mathlib.Core.Path.{◌≡◌, refl, sym, ap, ◌∙◌, subst}
use mathlib.Core.Bool.{Bool, true, false, cond}
use mathlib.Core.List.{List, [], ◌∷◌, ◌++◌, append-nil, append_assoc}
use mathlib.Core.Logic.{◌⊎◌, inl, inr}
use native.Mathlib.Omega.{arith}
use borrow.Author.Tests.{ltb-true, ltb-false, eqb-true}
use lib.Dec.{ltb, eqb}
use lib.ListN.{length, take, drop, get_or, length-append, get_or-append}
use lib.Seq.{length-take-le, append_snoc, split_at, take-append-le, take-append-add, get_or-append-add}
use Rattle.special.specs.declared.Kind.{Kind}
use Rattle.special.specs.declared.Kind.TheVariants.{Normal, PartNumber, SerialNumber, Configuration, BiasTrim, ExtendedError}
use Rattle.restart.specs.Restarts.{four, RestartAt, Stretch, count_next, is_fourth, count_after}

-- the count finds a restart at the datagram at place m
abbrev pub starts_at : List Kind → ℕ → Bool
starts_at ks m = is_fourth (count_after 0 (take m ks)) (get_or ks m Normal)

-- a list ends with the first n of the four
pub record JustCome (ks : List Kind) (n : ℕ) : Type 0 where
  pub before : List Kind
  pub parted : ks ≡ before ++ take n four

-- ---- where the four stand, the count finds them

first_counted : (c : ℕ) (ks : List Kind) (n : ℕ) → 1 ≤ n → n ≤ 3 → count_after c (ks ++ take n four) ≡ n
unfolding count_after
first_counted c [] zero l h = absurd (omega arith)
first_counted c [] (suc zero) l h = refl
first_counted c [] (suc (suc zero)) l h = refl
first_counted c [] (suc (suc (suc zero))) l h = refl
first_counted c [] (suc (suc (suc (suc n)))) l h = absurd (omega arith)
first_counted c (k ∷ ks) n l h = first_counted (count_next c k) ks n l h

-- one, two or three of the four that have just come are counted, whatever stands before them
pub come_counted : (ks : List Kind) (n : ℕ) → 1 ≤ n → n ≤ 3 → JustCome ks n → count_after 0 ks ≡ n
come_counted ks n l h come = ap (count_after 0) come.parted ∙ first_counted 0 come.before n l h

four_found : (before behind : List Kind) → starts_at (before ++ (four ++ behind)) (length before + 3) ≡ true
four_found before behind =
    rw (
      take-append-add before (four ++ behind) 3,
      get_or-append-add before (four ++ behind) 3 Normal,
      come_counted (before ++ take 3 four) 3 (omega arith) (omega arith) (record { before = before; parted = refl }),
    )

-- a restart is found at its fourth datagram
pub restart_counted : (ks : List Kind) (m : ℕ) → RestartAt ks (suc m) → starts_at ks m ≡ true
restart_counted ks m r =
    let e : m ≡ length r.before + 3 = omega (arith, r.end) in
    ap (λ (l : List Kind). starts_at l m) r.parted ∙ ap (starts_at (r.before ++ (four ++ r.behind))) e ∙ four_found r.before r.behind

-- ---- how far the count goes

choice_small : (t : Bool) (n : ℕ) → n ≤ 3 → cond t n 0 ≤ 3
choice_small true n h = h
choice_small false n h = omega arith

-- the count is at most 3 behind one more datagram
pub count_small : (n : ℕ) (k : Kind) → n ≤ 3 → count_next n k ≤ 3
count_small n Normal h = omega arith
count_small n PartNumber h = omega arith
count_small n SerialNumber h = choice_small (eqb n 1) 2 (omega arith)
count_small n Configuration h = choice_small (eqb n 2) 3 (omega arith)
count_small n BiasTrim h = omega arith
count_small n ExtendedError h = omega arith

-- and behind a list
pub count_after_small : (n : ℕ) (ks : List Kind) → n ≤ 3 → count_after n ks ≤ 3
unfolding count_after
count_after_small n [] h = h
count_after_small n (k ∷ ks) h = count_after_small (count_next n k) ks (count_small n k h)

-- ---- where the count finds them, the four stand

none_come : (ks : List Kind) → JustCome ks 0
none_come ks = record { before = ks; parted = sym (append-nil ks) }

-- k, the one of the four behind the first n, comes behind these or ends the order
next_come : (ks : List Kind) (c n : ℕ) (k : Kind) → take (suc n) four ≡ take n four ++ (k ∷ []) → JustCome ks c
    → JustCome (ks ++ (k ∷ [])) (cond (eqb c n) (suc n) 0)
next_come ks c n k e come = by (eqb c n) refl
  where
    by : (t : Bool) → eqb c n ≡ t → JustCome (ks ++ (k ∷ [])) (cond t (suc n) 0)
    by false q = none_come _
    by true q =
        record {
          before = come.before;
          parted =
              ap (λ (l : List Kind). l ++ (k ∷ [])) (come.parted ∙ ap (λ (m : ℕ). come.before ++ take m four) (eqb-true c n q))
              ∙ append_assoc come.before (take n four) (k ∷ [])
              ∙ ap (λ (l : List Kind). come.before ++ l) (sym e);
        }

one_more : (ks : List Kind) (n : ℕ) (k : Kind) → JustCome ks n → JustCome (ks ++ (k ∷ [])) (count_next n k)
one_more ks n Normal come = none_come _
one_more ks n PartNumber come = record { before = ks; parted = refl }
one_more ks n SerialNumber come = next_come ks n 1 SerialNumber refl come
one_more ks n Configuration come = next_come ks n 2 Configuration refl come
one_more ks n BiasTrim come = none_come _
one_more ks n ExtendedError come = none_come _

more : (ks js : List Kind) (n : ℕ) → JustCome ks n → JustCome (ks ++ js) (count_after n js)
unfolding count_after
more ks [] n come = subst (λ (l : List Kind). JustCome l n) (sym (append-nil ks)) come
more ks (k ∷ js) n come =
    subst (λ (l : List Kind). JustCome l (count_after (count_next n k) js)) (append_snoc ks k js) (more (ks ++ (k ∷ [])) js (count_next n k) (one_more ks n k come))

-- as many of the four as the count says have just come
pub counted_come : (ks : List Kind) → JustCome ks (count_after 0 ks)
counted_come ks = more [] ks 0 (none_come [])

-- only behind three of the four is a datagram the fourth
fourth : (n : ℕ) (k : Kind) → is_fourth n k ≡ true → (n ≡ 3) × (k ≡ BiasTrim)
fourth n Normal e = absurd (let z : ◌≡◌ {A = ℕ} 0 1 = cc in omega arith)
fourth n PartNumber e = absurd (let z : ◌≡◌ {A = ℕ} 0 1 = cc in omega arith)
fourth n SerialNumber e = absurd (let z : ◌≡◌ {A = ℕ} 0 1 = cc in omega arith)
fourth n Configuration e = absurd (let z : ◌≡◌ {A = ℕ} 0 1 = cc in omega arith)
fourth n BiasTrim e = (eqb-true n 3 e, refl)
fourth n ExtendedError e = absurd (let z : ◌≡◌ {A = ℕ} 0 1 = cc in omega arith)

-- where the count finds a restart there is one
pub counted_restart : (ks : List Kind) (m : ℕ) → m < length ks → starts_at ks m ≡ true → RestartAt ks (suc m)
counted_restart ks m h e =
    let f = fourth (count_after 0 (take m ks)) (get_or ks m Normal) e in
    let come : JustCome (take m ks) 3 = subst (JustCome (take m ks)) f.0 (counted_come (take m ks)) in
    let l : length (take m ks) ≡ length come.before + 3 = ap length come.parted ∙ length-append come.before (take 3 four) in
    record {
      before = come.before;
      behind = drop (suc m) ks;
      parted =
          split_at ks m Normal h
          ∙ ap (λ (k : Kind). take m ks ++ (k ∷ drop (suc m) ks)) f.1
          ∙ ap (λ (s : List Kind). s ++ (BiasTrim ∷ drop (suc m) ks)) come.parted
          ∙ append_assoc come.before (take 3 four) (BiasTrim ∷ drop (suc m) ks);
      end = omega (arith, l, length-take-le m ks (omega arith));
    }

-- and where there is none it finds none
pub not_restart_counted : (ks : List Kind) (m : ℕ) → m < length ks → (RestartAt ks (suc m) → ⊥) → starts_at ks m ≡ false
not_restart_counted ks m h not = by (starts_at ks m) refl
  where
    by : (t : Bool) → starts_at ks m ≡ t → t ≡ false
    by true e = absurd (not (counted_restart ks m h e))
    by false e = refl

-- ---- places

-- a restart lies within the list, with room for the four before it
pub restart_range : {ks : List Kind} {place : ℕ} → RestartAt ks place → (4 ≤ place) × (place ≤ length ks)
restart_range r =
    let l = ap length r.parted ∙ length-append r.before (four ++ r.behind) in
    (omega (arith, r.end), omega (arith, r.end, l))

-- a restart stays one whatever follows the list
pub restart_on : (ks js : List Kind) {place : ℕ} → RestartAt ks place → RestartAt (ks ++ js) place
restart_on ks js r =
    record {
      before = r.before;
      behind = r.behind ++ js;
      parted = ap (λ (l : List Kind). l ++ js) r.parted ∙ append_assoc r.before (four ++ r.behind) js;
      end = r.end;
    }

-- and whatever follows a place makes no restart there
pub restart_before : (ks js : List Kind) {place : ℕ} → RestartAt (ks ++ js) place → place ≤ length ks → RestartAt ks place
restart_before ks js {place = zero} r h = absurd (omega (arith, (restart_range r).0))
restart_before ks js {place = suc m} r h =
    counted_restart ks m h
    (ap {B = Bool} (λ (l : List Kind). is_fourth (count_after 0 l) (get_or ks m Normal)) (sym (take-append-le m ks js (omega arith)))
    ∙ ap (is_fourth (count_after 0 (take m (ks ++ js)))) (sym (get_or-append ks js Normal m h))
    ∙ restart_counted (ks ++ js) m r)

-- ---- stretches

-- no stretch goes on past the beginning of another
not_before : (ks : List Kind) {from from' to : ℕ} → Stretch ks from to → Stretch ks from' to → from < from' → ⊥
not_before ks {from = from} {from' = from'} S S' h = by S'.begins
  where
    by : (from' ≡ 0) ⊎ RestartAt ks from' → ⊥
    by (inl e) = omega arith
    by (inr r) = S.none_between from' h S'.some r

-- a place belongs to one stretch at most
pub one_stretch : (ks : List Kind) {from from' to : ℕ} → Stretch ks from to → Stretch ks from' to → from ≡ from'
one_stretch ks {from = from} {from' = from'} S S' = by (ltb from from') refl (ltb from' from) refl
  where
    by : (s : Bool) → ltb from from' ≡ s → (t : Bool) → ltb from' from ≡ t → from ≡ from'
    by true e t f = absurd (not_before ks S S' (ltb-true from from' e))
    by false e true f = absurd (not_before ks S' S (ltb-true from' from f))
    by false e false f = omega (arith, ltb-false from from' e, ltb-false from' from f)

-- and every place belongs to one
pub place_stretch : (ks : List Kind) (i : ℕ) → i < length ks → (from : ℕ) × Stretch ks from (suc i)
place_stretch ks zero h =
    (0, record { some = omega arith; within = h; begins = inl refl; none_between = λ place l g r. absurd (omega arith) })
place_stretch ks (suc i) h = by (starts_at ks i) refl (place_stretch ks i (omega arith))
  where
    by : (t : Bool) → starts_at ks i ≡ t → (from : ℕ) × Stretch ks from (suc i) → (from : ℕ) × Stretch ks from (suc (suc i))
    by true e (from, S) = (
      suc i,
      record {
        some = omega arith;
        within = h;
        begins = inr (counted_restart ks i (omega arith) e);
        none_between = λ place l g r. absurd (omega arith);
      },
    )
    by false e (from, S) =
        (from, record { some = omega (arith, S.some); within = h; begins = S.begins; none_between = none })
      where
        none : (place : ℕ) → from < place → place < suc (suc i) → RestartAt ks place → ⊥
        none place l g r = past (ltb place (suc i)) refl
          where
            past : (t : Bool) → ltb place (suc i) ≡ t → ⊥
            past true q = S.none_between place l (ltb-true place (suc i) q) r
            past false q =
                let p : place ≡ suc i = omega (arith, ltb-false place (suc i) q) in
                let x = restart_counted ks i (subst (RestartAt ks) p r) in
                let z : ◌≡◌ {A = ℕ} 0 1 = cc in
                omega arith

-- a stretch up to an earlier place
pub stretch_less : {ks : List Kind} {from to to' : ℕ} → Stretch ks from to → from < to' → to' ≤ to → Stretch ks from to'
stretch_less S l h =
    record {
      some = l;
      within = omega (arith, S.within);
      begins = S.begins;
      none_between = λ place a b r. S.none_between place a (omega arith) r;
    }

-- the count finds a restart just before a stretch that doesn't begin with the list
pub stretch_begins : (ks : List Kind) {from to : ℕ} → Stretch ks from to → (m : ℕ) → from ≡ suc m → starts_at ks m ≡ true
stretch_begins ks {from = from} S m e = by S.begins
  where
    by : (from ≡ 0) ⊎ RestartAt ks from → starts_at ks m ≡ true
    by (inl z) = absurd (omega arith)
    by (inr r) = restart_counted ks m (subst (RestartAt ks) e r)

-- and none from its beginning up to its last datagram
pub stretch_goes_on : (ks : List Kind) {from i : ℕ} → Stretch ks from (suc i) → (m : ℕ) → from ≤ m → m < i → starts_at ks m ≡ false
stretch_goes_on ks S m l h = not_restart_counted ks m (omega (arith, S.within)) (λ r. S.none_between (suc m) (omega arith) (omega arith) r)

-- a stretch stays one whatever follows the list
pub stretch_on : (ks js : List Kind) {from to : ℕ} → Stretch ks from to → Stretch (ks ++ js) from to
stretch_on ks js {from = from} {to = to} S =
    record {
      some = S.some;
      within = omega (arith, S.within, length-append ks js);
      begins = by S.begins;
      none_between = λ place l h r. S.none_between place l h (restart_before ks js r (omega (arith, S.within)));
    }
  where
    by : (from ≡ 0) ⊎ RestartAt ks from → (from ≡ 0) ⊎ RestartAt (ks ++ js) from
    by (inl e) = inl e
    by (inr r) = inr (restart_on ks js r)

-- and whatever follows its end makes no stretch
pub stretch_before : (ks js : List Kind) {from to : ℕ} → Stretch (ks ++ js) from to → to ≤ length ks → Stretch ks from to
stretch_before ks js {from = from} {to = to} S h =
    record {
      some = S.some;
      within = h;
      begins = by S.begins;
      none_between = λ place l g r. S.none_between place l g (restart_on ks js r);
    }
  where
    by : (from ≡ 0) ⊎ RestartAt (ks ++ js) from → (from ≡ 0) ⊎ RestartAt ks from
    by (inl e) = inl e
    by (inr r) = inr (restart_before ks js r (omega (arith, S.some)))
