-- Which lists are acceptable: any bytes up to the check that begin with the identifier, completed; and no others.
use Prim.Native.Nat.{ℕ, ◌+◌, ◌≤◌, ◌<◌}
use native.Mathlib.Omega.{arith}
use native.Mathlib.Decide.{dec_lt}
use mathlib.Core.Bool.{Bool, true, false}
use mathlib.Core.List.{List, [], ◌∷◌, ◌++◌}
use mathlib.Core.Path.{◌≡◌, refl, sym, ap, ap₂, subst, ◌∙◌}
use lib.Dec.{eqb}
use lib.ListN.{length, get_or, take, drop, get_or-append, length-append, length-drop, take-append-drop}
use lib.Seq.{length-take-le, take_at, drop_at, drop-drop}
use borrow.Author.Tests.{eq-eqb, eqb-true}
use Rattle.integers.specs.Bytes.{AllBytes, big_endian, in_bytes}
use Rattle.integers.proofs.Bytes.{bytes_nil, bytes_cons, bytes_append, bytes_take, bytes_drop, big_endian_injective}
use Rattle.integers.proofs.Booleans.{and_split}
use Rattle.integers.proofs.Values.{in_bytes_length, in_bytes_bytes, in_bytes_value}
use Rattle.crc.specs.Check.{stim300, check32}
use Rattle.crc.proofs.Checks.{check32_lt}
use Rattle.setup.specs.Layout.{bytes, parts_of, Layout, layout_of, row_at}
use Rattle.setup.specs.Setup.{terminated, length_of}
use Rattle.setup.specs.declared.Row.{Row}
use Rattle.setup.specs.declared.Setup.{Setup}
use Rattle.setup.proofs.Ranges.{unlisted}
use Rattle.setup.proofs.Layouts.{before_range, length_parts}
use Rattle.setup.proofs.Refusals.{listed_length}
use Rattle.acceptance.specs.Acceptable.{same, check_right, ending_right, acceptable, completed}
use Rattle.acceptance.proofs.Acceptance.{Facts, accepted, accepts}
use Rattle.std.specs.Prelude.{Some}

-- the four bytes of the check
abbrev pub check_sent : List ℕ → List ℕ
check_sent front = in_bytes 4 (check32 front)

pub check_value : (front : List ℕ) → AllBytes front → big_endian (check_sent front) ≡ check32 front
check_value front h = in_bytes_value 4 (check32 front) (check32_lt front h)

ending_bytes_lem : (r : Row) (t : Bool) → AllBytes (layout_of r t).ending
ending_bytes_lem r true = bytes_cons (omega arith) (bytes_cons (omega arith) bytes_nil)
ending_bytes_lem r false = bytes_nil

pub same_self : (l : List ℕ) → same l l ≡ true
same_self [] = refl
same_self (x ∷ l) = rw (eq-eqb x x refl) (same_self l)

pub same_equal : (k l : List ℕ) → same k l ≡ true → k ≡ l
same_equal [] [] e = refl
same_equal [] (y ∷ l) e = let z : ◌≡◌ {A = ℕ} 0 1 = cc in absurd (omega arith)
same_equal (x ∷ k) [] e = let z : ◌≡◌ {A = ℕ} 0 1 = cc in absurd (omega arith)
same_equal (x ∷ k) (y ∷ l) e = let both = and_split (eqb x y) (same k l) e in ap₂ ◌∷◌ (eqb-true x y both.0) (same_equal k l both.1)

-- an identifier in the table is a byte
pub listed_byte : (i : ℕ) {r : Row} → row_at i ≡ Some r → i < 256
listed_byte i e = by (dec_lt i 256)
  where
    by : Dec (i < 256) → i < 256
    by (yes h) = h
    by (no h) =
        let o = unlisted i (λ a b. omega arith) (λ a b. omega arith) (λ a b. omega arith) (λ a b. omega arith) in
        let z : ◌≡◌ {A = ℕ} 0 1 = cc in
        absurd (omega arith)

-- as it is with the sensor's check
pub completed_by : (r : Row) (t : Bool) (front : List ℕ) → completed (layout_of r t) front ≡ front ++ (check_sent front ++ (layout_of r t).ending)
unfolding completed stim300 check32
completed_by r t front = refl

module _ (u : Setup) (r : Row) (listed : row_at u.identifier ≡ Some r) (termination : u.termination ≤ 1) where
  abbrev pub laid : Layout
  laid = layout_of r (terminated u)

  module _ (front : List ℕ) (front_Bytes : AllBytes front) (whole : length front ≡ bytes (parts_of r)) (first : get_or front 0 0 ≡ u.identifier) where
    abbrev sent : List ℕ
    sent = check_sent front

    abbrev all : List ℕ
    all = front ++ (sent ++ laid.ending)

    all_length : length all ≡ length_of u
    unfolding stim300
    all_length =
        rw (listed_length u listed)
        (omega (arith, length-append front (sent ++ laid.ending), length-append sent laid.ending, in_bytes_length 4 (check32 front)))

    all_check : check_right laid all ≡ true
    unfolding check_right stim300 check32
    all_check =
        rw (
          take_at front (sent ++ laid.ending) (bytes (parts_of r)) whole,
          drop_at front (sent ++ laid.ending) (bytes (parts_of r)) whole,
          take_at sent laid.ending 4 (in_bytes_length 4 (check32 front)),
        )
        (eq-eqb (big_endian sent) (check32 front) (check_value front front_Bytes))

    all_ending : ending_right laid all ≡ true
    unfolding ending_right stim300
    all_ending =
        ap (λ l. same l laid.ending)
        (sym (drop-drop 4 (bytes (parts_of r)) all)
        ∙ ap (drop 4) (drop_at front (sent ++ laid.ending) (bytes (parts_of r)) whole)
        ∙ drop_at sent laid.ending 4 (in_bytes_length 4 (check32 front)))
        ∙ same_self laid.ending

    -- it is acceptable, whatever stands behind the identifier, and consists of bytes
    pub completed_acceptable : acceptable u (completed laid front) ≡ true
    completed_acceptable =
        rw (completed_by r (terminated u) front)
        (accepts u all
        (record {
          row = r;
          listed = listed;
          termination = termination;
          long = all_length;
          first = get_or-append front (sent ++ laid.ending) 0 0 (omega (arith, whole, before_range r)) ∙ first;
          ending = all_ending;
          check = all_check;
        }))

    pub completed_length : length (completed laid front) ≡ length_of u
    completed_length = rw (completed_by r (terminated u) front) all_length

    pub completed_bytes : AllBytes (completed laid front)
    completed_bytes =
        rw (completed_by r (terminated u) front)
        (bytes_append front_Bytes (bytes_append (in_bytes_bytes 4 (check32 front)) (ending_bytes_lem r (terminated u))))

  -- ---- and no others
  module _ (s : List ℕ) (bytes-only : AllBytes s) (good : acceptable u s ≡ true) where
    known : Facts u s
    known = accepted u s good

    row_same : known.row ≡ r
    row_same = let e : Some known.row ≡ Some r = sym known.listed ∙ listed in cc

    abbrev n : ℕ
    n = bytes (parts_of r)

    pub acceptable_long : (n + 4 ≤ length s) × (14 ≤ n)
    acceptable_long =
        let k = known in
        let l = listed_length u listed in
        let p = length_parts r (terminated u) in
        (omega arith, (before_range r).0)

    check_same : take 4 (drop n s) ≡ check_sent (take n s)
    unfolding check_right stim300 check32
    check_same =
        let l = acceptable_long in
        big_endian_injective (take 4 (drop n s)) (check_sent (take n s)) (bytes_take 4 (bytes_drop n bytes-only)) (in_bytes_bytes 4 (check32 (take n s)))
        (length-take-le 4 (drop n s) (omega (arith, length-drop n s)) ∙ sym (in_bytes_length 4 (check32 (take n s))))
        (eqb-true (big_endian (take 4 (drop n s))) (check32 (take n s))
        (subst (λ x. check_right (layout_of x (terminated u)) s ≡ true) row_same known.check)
        ∙ sym (check_value (take n s) (bytes_take n bytes-only)))

    ending_same : drop (n + 4) s ≡ laid.ending
    unfolding ending_right stim300
    ending_same = same_equal (drop (n + 4) s) laid.ending (subst (λ x. ending_right (layout_of x (terminated u)) s ≡ true) row_same known.ending)

    -- an acceptable list of bytes is its own bytes before the check, completed
    pub acceptable_completed : s ≡ completed laid (take n s)
    acceptable_completed =
        rw (completed_by r (terminated u) (take n s))
        (sym (take-append-drop n s)
        ∙ ap (λ t. take n s ++ t) (sym (take-append-drop 4 (drop n s)) ∙ ap₂ ◌++◌ check_same (drop-drop 4 n s ∙ ending_same)))
