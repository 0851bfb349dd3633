-- Laws of the special datagrams: 001's byte counts, which bytes begin one, and what is known of one.
use Prim.Native.Nat.{ℕ, zero, suc, ◌+◌, ◌≤◌, ◌<◌}
use native.Mathlib.Omega.{arith}
use mathlib.Core.Bool.{Bool, true, false, not, ◌&&◌, ◌||◌, cond}
use mathlib.Core.List.{List, [], ◌∷◌}
use mathlib.Core.Logic.{◌⊎◌, inl, inr, ⊎_elim}
use mathlib.Core.Option.{Option, none, some}
use mathlib.Core.Path.{◌≡◌, refl, sym, ap, subst, ◌∙◌}
use lib.Dec.{eqb, eqb-suc-zero}
use lib.ListN.{length, get_or, take, drop, length-drop}
use borrow.Author.Tests.{eqb-true, eq-eqb, ne_eqb}
use Rattle.integers.specs.Bytes.{big_endian}
use Rattle.integers.proofs.Booleans.{and_split}
use Rattle.crc.specs.Check.{stim300, check_of, check32}
use Rattle.setup.specs.Layout.{sum, check_bytes, row_at}
use Rattle.setup.specs.declared.Row.{Row}
use Rattle.wire.proofs.FieldPlaces.{window_within, four_bytes}
use Rattle.acceptance.specs.Acceptable.{same}
use Rattle.acceptance.proofs.Completed.{same_self, same_equal}
use Rattle.special.specs.Special.{fields_of, Entry, table, before_check, ending_of, length_in, entry_in, entry_at}
use Rattle.special.specs.Special.{length_by, special_length, length_found, kind_by, kind_at, is_of, is_by, is_special, is_normal}
use Rattle.special.specs.declared.Kind.TheVariants.{Normal}
use Rattle.std.specs.Option.{option_eq}
use Rattle.std.specs.Prelude.{None, Some}

-- ---- the table

abbrev pub Each : (Entry → Type 0) → List Entry → Type 0
Each P [] = Unit {0}
Each P (e ∷ es) = P e × Each P es

-- the fields, the check and the ending of each entry add up to the bytes that 001 counts
pub lengths_counted : Each (λ e. length_in e ≡ e.counted) table
unfolding stim300
lengths_counted = (refl, (refl, (refl, (refl, (refl, (refl, (refl, (refl, (refl, (refl, tt))))))))))

-- what holds of each entry holds of the one that is found, whose identifier is the byte
found_in : (P : Entry → Type 0) (es : List Entry) → Each P es → (i : ℕ) {e : Entry} → entry_in es i ≡ some e → P e × (i ≡ e.identifier)
found_in P [] h i q = let z : ◌≡◌ {A = ℕ} 0 1 = cc in absurd (omega arith)
found_in P (x ∷ es) h i {e = e} q = by (eqb i x.identifier) refl q (λ k. found_in P es h.1 i k)
  where
    by : (t : Bool) → eqb i x.identifier ≡ t → cond t (some x) (entry_in es i) ≡ some e
        → (entry_in es i ≡ some e → P e × (i ≡ e.identifier)) → P e × (i ≡ e.identifier)
    by true k q r = let u : x ≡ e = cc in subst (λ y. P y × (i ≡ y.identifier)) u (h.0, eqb-true i x.identifier k)
    by false k q r = r q

pub found : (P : Entry → Type 0) → Each P table → (i : ℕ) {e : Entry} → entry_at i ≡ some e → P e × (i ≡ e.identifier)
unfolding entry_at
found P h i q = found_in P table h i q

-- a byte that is no entry's identifier begins none: X, given that it differs from each
abbrev Apart : ℕ → List Entry → Type 0 → Type 0
Apart i [] X = X
Apart i (e ∷ es) X = (i ≡ e.identifier → ⊥) → Apart i es X

none_in : (es : List Entry) (i : ℕ) (X : Type 0) → (entry_in es i ≡ none → X) → Apart i es X
none_in [] i X f = f refl
none_in (x ∷ es) i X f = λ h. none_in es i X (λ q. f (rw (ne_eqb i x.identifier h) q))

pub none_found : (i : ℕ) → Apart i table (entry_at i ≡ none)
unfolding entry_at
none_found i = none_in table i (entry_in table i ≡ none) (λ q. q)

-- ---- what is computed of each entry

abbrev pub Bounded : Entry → Type 0
Bounded e = (20 ≤ length_in e) × (length_in e ≤ 42) × (e.identifier < 256)

bounded : Each Bounded table
unfolding stim300
bounded = omega arith

all_special : Each (λ e. is_normal e.kind ≡ false) table
all_special = (refl, (refl, (refl, (refl, (refl, (refl, (refl, (refl, (refl, (refl, tt))))))))))

-- no identifier is in both tables
all_unlisted : Each (λ e. row_at e.identifier ≡ None) table
unfolding row_at
all_unlisted = (refl, (refl, (refl, (refl, (refl, (refl, (refl, (refl, (refl, (refl, tt))))))))))

-- the length is the bytes before the check, 4 for the check and 2 for the ending
length_ending : (e : Entry) → length_in e ≡ before_check e + 4 + cond e.terminated 2 0
unfolding stim300
length_ending e = by e.terminated refl
  where
    by : (t : Bool) → e.terminated ≡ t → length_in e ≡ before_check e + 4 + cond e.terminated 2 0
    by true q = rw q
    by false q = rw q

-- ---- of a first byte

pub special_length_most : (i : ℕ) → special_length i ≤ 42
unfolding special_length
special_length_most i = by (entry_at i) refl
  where
    by : (o : Option Entry) → entry_at i ≡ o → length_by o ≤ 42
    by none q = omega arith
    by (some e) q = (found Bounded bounded i q).0.1

-- of a byte that begins a special datagram
pub record Begins (i : ℕ) : Type 0 where
  pub begun : Entry
  pub listed : entry_at i ≡ some begun
  pub identifier : i ≡ begun.identifier
  pub long : special_length i ≡ length_in begun
  pub kind : kind_at i ≡ begun.kind
  pub bounds : Bounded begun
  pub special : is_normal begun.kind ≡ false

pub begins : (i : ℕ) → 1 ≤ special_length i → Begins i
unfolding special_length kind_at
begins i = by (entry_at i) refl
  where
    by : (o : Option Entry) → entry_at i ≡ o → 1 ≤ length_by o → Begins i
    by none q h = absurd (omega arith)
    by (some e) q h =
        record {
          begun = e;
          listed = q;
          identifier = (found Bounded bounded i q).1;
          long = ap length_by q;
          kind = ap kind_by q;
          bounds = (found Bounded bounded i q).0;
          special = (found (λ e. is_normal e.kind ≡ false) all_special i q).0;
        }

-- the length as the code answers it: none just where there is none, and else the same
pub found_none : (i : ℕ) → special_length i ≡ 0 → length_found i ≡ None
unfolding length_found
found_none i e = rw e

pub none_length : (i : ℕ) → length_found i ≡ None → special_length i ≡ 0
unfolding length_found
none_length i = by (special_length i)
  where
    by : (n : ℕ) → cond (eqb n 0) None (Some n) ≡ None → n ≡ 0
    by zero e = refl
    by (suc n) e = let f = rw (eqb-suc-zero n) at e in let z : ◌≡◌ {A = ℕ} 0 1 = cc in absurd (omega arith)

pub found_length : (i n : ℕ) → length_found i ≡ Some n → special_length i ≡ n
unfolding length_found
found_length i n = by (special_length i)
  where
    by : (m : ℕ) → cond (eqb m 0) None (Some m) ≡ Some n → m ≡ n
    by zero e = let z : ◌≡◌ {A = ℕ} 0 1 = cc in absurd (omega arith)
    by (suc m) e = let f = rw (eqb-suc-zero m) at e in cc

pub special_range : (i : ℕ) → 1 ≤ special_length i → (20 ≤ special_length i) × (special_length i ≤ 42)
special_range i h = let b = begins i h in omega (arith, b.long, b.bounds)

pub special_byte : (i : ℕ) → 1 ≤ special_length i → i < 256
special_byte i h = let b = begins i h in omega (arith, b.identifier, b.bounds)

-- a byte begins a special datagram of some length just where it begins one of some kind
pub length_kind : (i : ℕ) → 1 ≤ special_length i → is_normal (kind_at i) ≡ false
length_kind i h = let b = begins i h in rw b.kind b.special

pub kind_length : (i : ℕ) → special_length i ≡ 0 → kind_at i ≡ Normal
unfolding special_length kind_at
kind_length i = by (entry_at i) refl
  where
    by : (o : Option Entry) → entry_at i ≡ o → length_by o ≡ 0 → kind_by o ≡ Normal
    by none q h = refl
    by (some e) q h = let b = (found Bounded bounded i q).0 in absurd (omega (arith, h, b))

-- an identifier of a Normal Mode datagram begins no special one
pub unlisted_special : (i : ℕ) {r : Row} → row_at i ≡ Some r → special_length i ≡ 0
unfolding special_length
unlisted_special i {r} l = by (entry_at i) refl
  where
    by : (o : Option Entry) → entry_at i ≡ o → length_by o ≡ 0
    by none q = refl
    by (some e) q =
        let k = found (λ e. row_at e.identifier ≡ None) all_unlisted i q in
        let u : Some r ≡ None = sym l ∙ ap row_at k.1 ∙ k.0 in
        let z : ◌≡◌ {A = ℕ} 0 1 = cc in
        absurd (omega arith)

pub unlisted_kind : (i : ℕ) {r : Row} → row_at i ≡ Some r → kind_at i ≡ Normal
unlisted_kind i l = kind_length i (unlisted_special i l)

-- ---- what a special datagram is: one of the entry of its first byte, as long as that says, with its ending and its check
pub record Known (d : List ℕ) : Type 0 where
  pub entry : Entry
  pub listed : entry_at (get_or d 0 0) ≡ some entry
  pub long : length d ≡ length_in entry
  pub first : get_or d 0 0 ≡ entry.identifier
  pub ending : drop (before_check entry + 4) d ≡ ending_of entry
  pub check : big_endian (take 4 (drop (before_check entry) d)) ≡ check32 (take (before_check entry) d)

module _ (d : List ℕ) where
  known_of : (e : Entry) → entry_at (get_or d 0 0) ≡ some e → is_of e d ≡ true → Known d
  unfolding is_of stim300 check32
  known_of e q g =
      let long = eqb (length d) (length_in e) in
      let first = eqb (get_or d 0 0) e.identifier in
      let ends = same (drop (before_check e + 4) d) (ending_of e) in
      let check = eqb (big_endian (take 4 (drop (before_check e) d))) (check_of stim300 (take (before_check e) d)) in
      let third = and_split (long && first && ends) check g in
      let second = and_split (long && first) ends third.0 in
      let both = and_split long first second.0 in
      record {
        entry = e;
        listed = q;
        long = eqb-true (length d) (length_in e) both.0;
        first = eqb-true (get_or d 0 0) e.identifier both.1;
        ending = same_equal (drop (before_check e + 4) d) (ending_of e) second.1;
        check = eqb-true (big_endian (take 4 (drop (before_check e) d))) (check_of stim300 (take (before_check e) d)) third.1;
      }

  pub special_known : is_special d ≡ true → Known d
  unfolding is_special
  special_known = by (entry_at (get_or d 0 0)) refl
    where
      by : (o : Option Entry) → entry_at (get_or d 0 0) ≡ o → is_by o d ≡ true → Known d
      by none q g = let z : ◌≡◌ {A = ℕ} 0 1 = cc in absurd (omega arith)
      by (some e) q g = known_of e q g

  pub known_special : Known d → is_special d ≡ true
  unfolding is_special is_of stim300 check32
  known_special k =
      let e = k.entry in
      rw (
        k.listed,
        eq-eqb (length d) (length_in e) k.long,
        eq-eqb (get_or d 0 0) e.identifier k.first,
        k.ending,
        same_self (ending_of e),
        eq-eqb (big_endian (take 4 (drop (before_check e) d))) (check_of stim300 (take (before_check e) d)) k.check,
      )

  -- ---- its length and kind

  pub special_length_lem : is_special d ≡ true → length d ≡ special_length (get_or d 0 0)
  unfolding special_length
  special_length_lem g = let k = special_known g in k.long ∙ sym (ap length_by k.listed)

  pub special_some : is_special d ≡ true → 20 ≤ length d
  special_some g =
      let k = special_known g in
      let b = found Bounded bounded (get_or d 0 0) k.listed in
      omega (arith, k.long, b.0)

  pub special_kind : is_special d ≡ true → is_normal (kind_at (get_or d 0 0)) ≡ false
  special_kind g = length_kind (get_or d 0 0) (omega (arith, special_length_lem g, special_some g))

-- ---- as the code tests it

-- where the check stands, by the kind that begins with a byte
abbrev pub check_place : ℕ → ℕ
check_place i = 1 + sum (fields_of (kind_at i))

-- behind it 4 bytes end the datagram, or 6
pub place_end : (i : ℕ) → 1 ≤ special_length i → (special_length i ≡ check_place i + 4) ⊎ (special_length i ≡ check_place i + 4 + 2)
place_end i h =
    let b = begins i h in
    let e = b.begun in
    let n : check_place i ≡ before_check e = ap (λ k. 1 + sum (fields_of k)) b.kind in
    by e.terminated (omega (arith, n, b.long, length_ending e))
  where
    by : (t : Bool) → special_length i ≡ check_place i + 4 + cond t 2 0 → (special_length i ≡ check_place i + 4) ⊎ (special_length i ≡ check_place i + 4 + 2)
    by true q = inr q
    by false q = inl (omega arith)

-- of bytes as many as an ending has, or none, it is enough that they are 0x0D 0x0A if there are any
ending_tested : (t : Bool) (l : List ℕ) → length l ≡ cond t 2 0
    → same l (cond t (0x0D ∷ 0x0A ∷ []) []) ≡ (same l [] || same l (0x0D ∷ 0x0A ∷ []))
ending_tested true [] h = absurd (omega arith)
ending_tested true (x ∷ l) h = refl
ending_tested false [] h = refl
ending_tested false (x ∷ l) h = absurd (omega (arith, h))

-- what the test of the length tells
passed_test : (t : Bool) → false ≡ not t → t ≡ true
passed_test true e = refl
passed_test false e = e

failed_test : (t : Bool) → true ≡ not t → t ≡ false
failed_test true e = e
failed_test false e = refl

pub length_told : (i n : ℕ) → false ≡ not (option_eq eqb (length_found i) (Some n)) → n ≡ special_length i
unfolding length_found
length_told i n e = by (special_length i) (passed_test (option_eq eqb (length_found i) (Some n)) e)
  where
    by : (m : ℕ) → option_eq eqb (cond (eqb m 0) None (Some m)) (Some n) ≡ true → n ≡ m
    by zero e = let z : ◌≡◌ {A = ℕ} 0 1 = cc in absurd (omega arith)
    by (suc m) e = sym (eqb-true (suc m) n (rw (eqb-suc-zero m) at e))

pub length_other : (i n : ℕ) → 1 ≤ n → true ≡ not (option_eq eqb (length_found i) (Some n)) → n ≡ special_length i → ⊥
unfolding length_found
length_other i n h e = by (special_length i) (failed_test (option_eq eqb (length_found i) (Some n)) e)
  where
    by : (m : ℕ) → option_eq eqb (cond (eqb m 0) None (Some m)) (Some n) ≡ false → n ≡ m → ⊥
    by zero e q = omega arith
    by (suc m) e q =
        let f : eqb (suc m) n ≡ false = rw (eqb-suc-zero m) at e in
        let g : eqb (suc m) n ≡ true = eq-eqb (suc m) n (sym q) in
        let z : ◌≡◌ {A = ℕ} 0 1 = cc in
        omega arith

-- the check lies within
pub place_within : (i n : ℕ) → 1 ≤ n → n ≡ special_length i → check_place i + 4 ≤ n
place_within i n h e = ⊎_elim (λ l. omega arith) (λ l. omega arith) (place_end i (omega arith))

-- three bytes or more are no ending
pub no_ending : (l : List ℕ) → 3 ≤ length l → (same l [] || same l (0x0D ∷ 0x0A ∷ [])) ≡ false
no_ending [] h = absurd (omega arith)
no_ending (x ∷ []) h = absurd (omega arith)
no_ending (x ∷ y ∷ []) h = absurd (omega arith)
no_ending (x ∷ y ∷ z ∷ l) h = and_false_twice (eqb x 0x0D) (eqb y 0x0A)
  where
    and_false_twice : (a b : Bool) → (a && (b && false)) ≡ false
    and_false_twice true true = refl
    and_false_twice true false = refl
    and_false_twice false b = refl

pub tested : (d : List ℕ) → 1 ≤ length d → length d ≡ special_length (get_or d 0 0)
    → let n = check_place (get_or d 0 0) in
    is_special d
    ≡ ((same (drop (n + 4) d) [] || same (drop (n + 4) d) (0x0D ∷ 0x0A ∷ []))
    && eqb (big_endian (take (check_bytes stim300) (drop n d))) (check_of stim300 (take n d)))
unfolding is_special is_of stim300
tested d some_bytes long =
    let b = begins (get_or d 0 0) (omega arith) in
    let e = b.begun in
    let n : check_place (get_or d 0 0) ≡ before_check e = ap (λ k. 1 + sum (fields_of k)) b.kind in
    let right : length d ≡ length_in e = long ∙ b.long in
    let left : length (drop (before_check e + 4) d) ≡ cond e.terminated 2 0 =
    omega (arith, right, length_ending e, length-drop (before_check e + 4) d) in
    rw (
      n,
      b.listed,
      eq-eqb (length d) (length_in e) right,
      eq-eqb (get_or d 0 0) e.identifier b.identifier,
      ending_tested e.terminated (drop (before_check e + 4) d) left,
    )

pub other_length : (d : List ℕ) → (length d ≡ special_length (get_or d 0 0) → ⊥) → is_special d ≡ false
other_length d h = by (is_special d) refl
  where
    by : (t : Bool) → is_special d ≡ t → is_special d ≡ false
    by true q = absurd (h (special_length_lem d q))
    by false q = q

pub none_special : (d : List ℕ) → length d ≡ 0 → is_special d ≡ false
none_special d h = by (is_special d) refl
  where
    by : (t : Bool) → is_special d ≡ t → is_special d ≡ false
    by true q = absurd (omega (arith, h, special_some d q))
    by false q = q

-- the check byte by byte
pub check_bytes_lem : (s : List ℕ) (n : ℕ) → n + 4 ≤ length s
    → eqb (big_endian (take (check_bytes stim300) (drop n s))) (check_of stim300 (take n s))
    ≡ eqb (big_endian (get_or s n 0 ∷ get_or s (n + 1) 0 ∷ get_or s (n + 2) 0 ∷ get_or s (n + 3) 0 ∷ [])) (check32 (take n s))
unfolding stim300 check32
check_bytes_lem s n h = ap (λ l. eqb (big_endian l) (check32 (take n s))) (sym (window_within 4 n s h) ∙ four_bytes n s)
