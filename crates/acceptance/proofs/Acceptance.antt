-- Laws of acceptable datagrams: what is known of one, and what is enough.
use Prim.Native.Nat.{ℕ, ◌+◌, ◌/◌, ◌≤◌}
use native.Mathlib.Omega.{arith}
use mathlib.Core.Bool.{Bool, true, false, not, ◌&&◌, ◌||◌}
use mathlib.Core.List.{List, [], ◌∷◌}
use mathlib.Core.Path.{◌≡◌, refl, sym, ap, ◌∙◌}
use lib.Dec.{eqb, leb}
use lib.ListN.{length, get_or, take, drop, length-drop, drop_of_length-le}
use lib.Seq.{take_all}
use borrow.Author.Tests.{eqb-true, eq-eqb, leb-true, le-leb}
use Rattle.integers.specs.Bytes.{big_endian}
use Rattle.integers.proofs.Booleans.{and_split}
use Rattle.crc.specs.Check.{stim300, check32}
use Rattle.setup.specs.Layout.{bytes, parts_of, Layout, layout_of, length_in, row_at}
use Rattle.setup.specs.Setup.{ruling_on, terminated, length_of}
use Rattle.setup.specs.Sensor.{sensor_of}
use Rattle.setup.specs.declared.Row.{Row}
use Rattle.setup.specs.declared.Setup.{Setup}
use Rattle.setup.proofs.Layouts.{length_range}
use Rattle.setup.proofs.Refusals as refusals
use Rattle.setup.proofs.Sensors.{sensor_row}
use Rattle.wire.proofs.FieldPlaces.{window_within, two_bytes, four_bytes}
use Rattle.acceptance.specs.Acceptable.{same, check_right, ending_right, acceptable_in, acceptable_at, acceptable}
use Rattle.std.specs.Prelude.{Option, None, Some, Ok}

-- what an acceptable list of an identifier and a layout is known by
pub record Right (i : ℕ) (l : Layout) (s : List ℕ) : Type 0 where
  pub long : length s ≡ length_in l
  pub first : get_or s 0 0 ≡ i
  pub ending : ending_right l s ≡ true
  pub check : check_right l s ≡ true

pub right : (i : ℕ) (l : Layout) (s : List ℕ) → acceptable_in i l s ≡ true → Right i l s
unfolding acceptable_in
right i l s e =
    let long = eqb (length s) (length_in l) in
    let first = eqb (get_or s 0 0) i in
    let third = and_split (long && first && ending_right l s) (check_right l s) e in
    let second = and_split (long && first) (ending_right l s) third.0 in
    let both = and_split long first second.0 in
    record {
      long = eqb-true (length s) (length_in l) both.0;
      first = eqb-true (get_or s 0 0) i both.1;
      ending = second.1;
      check = third.1;
    }

-- and one of a setup
pub record Facts (u : Setup) (s : List ℕ) : Type 0 where
  pub row : Row
  pub listed : row_at u.identifier ≡ Some row
  pub termination : u.termination ≤ 1
  pub long : length s ≡ length_of u
  pub first : get_or s 0 0 ≡ u.identifier
  pub ending : ending_right (layout_of row (terminated u)) s ≡ true
  pub check : check_right (layout_of row (terminated u)) s ≡ true

module _ (u : Setup) (s : List ℕ) where
  -- by the row of its identifier
  pub row_acceptable : {r : Row} → row_at u.identifier ≡ Some r → u.termination ≤ 1
      → acceptable u s ≡ acceptable_in u.identifier (layout_of r (terminated u)) s
  unfolding acceptable
  row_acceptable {r} e h =
      rw e (ap (λ (b : Bool). b && acceptable_in u.identifier (layout_of r (terminated u)) s) (le-leb u.termination 1 h))

  pub accepted : acceptable u s ≡ true → Facts u s
  unfolding acceptable
  accepted = by (row_at u.identifier) refl
    where
      by : (l : Option Row) → row_at u.identifier ≡ l → acceptable_at l u s ≡ true → Facts u s
      by (Some r) listed e =
          let l = layout_of r (terminated u) in
          let both = and_split (leb u.termination 1) (acceptable_in u.identifier l s) e in
          let k = right u.identifier l s both.1 in
          record {
            row = r;
            listed = listed;
            termination = leb-true u.termination 1 both.0;
            long = k.long ∙ sym (refusals.listed_length u listed);
            first = k.first;
            ending = k.ending;
            check = k.check;
          }
      by None listed e = let z : ◌≡◌ {A = ℕ} 0 1 = cc in absurd (omega arith)

  pub accepts : Facts u s → acceptable u s ≡ true
  unfolding acceptable_in
  accepts a =
      rw (
        row_acceptable a.listed a.termination,
        eq-eqb (length s) (length_in (layout_of a.row (terminated u))) (a.long ∙ refusals.listed_length u a.listed),
        eq-eqb (get_or s 0 0) u.identifier a.first,
        a.ending,
        a.check,
      )

  -- 18 to 65 bytes
  pub accepted_length : acceptable u s ≡ true → (18 ≤ length s) × (length s ≤ 65)
  accepted_length e =
      let a = accepted e in
      rw (a.long, refusals.listed_length u a.listed) (length_range a.row (terminated u))

  -- of a setup that is accepted, by the sensor that it describes
  pub sensor_acceptable : ruling_on u ≡ Ok tt
      → acceptable u s ≡ acceptable_in (sensor_of u).identifier (layout_of (sensor_of u).row (sensor_of u).terminated) s
  unfolding sensor_of
  sensor_acceptable ok = row_acceptable (sensor_row u ok) (refusals.accepted u ok).termination

-- of the setup only the identifier and the termination matter
pub same_acceptable : (u v : Setup) (s : List ℕ) → u.identifier ≡ v.identifier → u.termination ≡ v.termination → acceptable u s ≡ acceptable v s
unfolding acceptable
same_acceptable u v s i t = ap (λ n. acceptable_at (row_at n) u s) i ∙ by (row_at v.identifier)
  where
    by : (l : Option Row) → acceptable_at l u s ≡ acceptable_at l v s
    by (Some r) = rw (i, t)
    by None = refl

-- ---- as the code tests it

-- two bytes at the end of a list
pub two_left : (s : List ℕ) (n : ℕ) → length s ≡ n + 2 → drop n s ≡ get_or s n 0 ∷ get_or s (n + 1) 0 ∷ []
two_left s n e =
    sym (take_all 2 (drop n s) (omega (arith, length-drop n s))) ∙ sym (window_within 2 n s (omega arith)) ∙ two_bytes n s

pub last_true : (a b : Bool) → (a && (b && true)) ≡ (a && b)
last_true a true = refl
last_true a false = refl

module _ (r : Row) (s : List ℕ) where
  -- the ending stands where a datagram without one ends
  pub ending_bytes_lem : length s ≡ length_in (layout_of r true)
      → ending_right (layout_of r true) s
      ≡ (eqb (get_or s (length_in (layout_of r false)) 0) 0x0D && eqb (get_or s (length_in (layout_of r false) + 1) 0) 0x0A)
  unfolding ending_right
  ending_bytes_lem e =
      let n = length_in (layout_of r false) in
      let h : bytes (parts_of r) + stim300.width / 8 ≡ n = omega arith in
      ap (λ bs. same bs (0x0D ∷ 0x0A ∷ [])) (ap (λ k. drop k s) h ∙ two_left s n (omega arith))
      ∙ last_true (eqb (get_or s n 0) 0x0D) (eqb (get_or s (n + 1) 0) 0x0A)

  pub ending_none : length s ≡ length_in (layout_of r false) → ending_right (layout_of r false) s ≡ true
  unfolding ending_right
  ending_none e = let h : length s ≤ bytes (parts_of r) + stim300.width / 8 = omega arith in rw (drop_of_length-le s h)

  pub check_bytes_lem : let n = bytes (parts_of r) in n + 4 ≤ length s
      → check_right (layout_of r false) s
      ≡ eqb (big_endian (get_or s n 0 ∷ get_or s (n + 1) 0 ∷ get_or s (n + 2) 0 ∷ get_or s (n + 3) 0 ∷ [])) (check32 (take n s))
  unfolding check_right stim300 check32
  check_bytes_lem h =
      let n = bytes (parts_of r) in
      ap (λ bs. eqb (big_endian bs) (check32 (take n s))) (sym (window_within 4 n s h) ∙ four_bytes n s)

in_order : (a b c d : Bool) → (a && b && c && d) ≡ (a && (not (not b || not c) && d))
in_order false b c d = refl
in_order true false c d = refl
in_order true true false d = refl
in_order true true true d = refl

pub tested : (i : ℕ) (r : Row) (t : Bool) (s : List ℕ)
    → let l = layout_of r t in
    acceptable_in i l s
    ≡ (eqb (length s) (length_in l) && (not (not (eqb (get_or s 0 0) i) || not (ending_right l s)) && check_right (layout_of r false) s))
unfolding acceptable_in check_right
tested i r t s =
    let l = layout_of r t in
    in_order (eqb (length s) (length_in l)) (eqb (get_or s 0 0) i) (ending_right l s) (check_right (layout_of r false) s)
