-- Worked by computation: in which lists of kinds a restart stands, and where.
-- Assumes nothing.
use Prim.Native.Nat.{ℕ, zero, suc, ◌<◌}
use mathlib.Core.Path.{◌≡◌, refl, sym, ap, ◌∙◌}
use mathlib.Core.Bool.{Bool, true, false, not, ◌&&◌, ◌||◌}
use mathlib.Core.List.{List, [], ◌∷◌, ◌++◌}
use native.Mathlib.Omega.{arith}
use borrow.Author.Tests.{ltb-true, ltb-false}
use lib.Dec.{ltb, eqb}
use lib.ListN.{length}
use Rattle.integers.proofs.Booleans.{and_split}
use Rattle.special.specs.declared.Kind.{Kind}
use Rattle.special.specs.declared.Kind.TheVariants.{Normal, PartNumber, SerialNumber, Configuration, BiasTrim, ExtendedError}
use Rattle.restart.specs.Restarts.{four, RestartAt, count_after}
use Rattle.restart.proofs.Restarts.{starts_at, restart_counted, restart_range}

-- the count finds no restart at the first n datagrams but at the places that pass a test
abbrev found_only : (ℕ → Bool) → List Kind → ℕ → Bool
found_only p ks zero = true
found_only p ks (suc m) = (not (starts_at ks m) || p (suc m)) && found_only p ks m

test_passed : (p : ℕ → Bool) (ks : List Kind) (n m : ℕ) → found_only p ks n ≡ true → m < n → starts_at ks m ≡ true → p (suc m) ≡ true
test_passed p ks zero m e h s = absurd (omega arith)
test_passed p ks (suc n) m e h s = by (ltb m n) refl (λ x. test_passed p ks n m split.1 x s)
  where
    split : (not (starts_at ks n) || p (suc n) ≡ true) × (found_only p ks n ≡ true)
    split = and_split (not (starts_at ks n) || p (suc n)) (found_only p ks n) e

    by : (t : Bool) → ltb m n ≡ t → (m < n → p (suc m) ≡ true) → p (suc m) ≡ true
    by true q r = r (ltb-true m n q)
    by false q r =
        let same : n ≡ m = omega (arith, ltb-false m n q) in
        let there : starts_at ks n ≡ true = ap (starts_at ks) same ∙ s in
        ap (λ (k : ℕ). p (suc k)) (sym same) ∙ (rw there at split.0)

-- so there is none elsewhere
only : (p : ℕ → Bool) (ks : List Kind) → found_only p ks (length ks) ≡ true → (place : ℕ) → RestartAt ks place → p place ≡ true
only p ks e zero r = absurd (omega (arith, (restart_range r).0))
only p ks e (suc m) r = test_passed p ks (length ks) m e (restart_range r).1 (restart_counted ks m r)

none : (ks : List Kind) → found_only (λ place. false) ks (length ks) ≡ true → (place : ℕ) → RestartAt ks place → ⊥
none ks e place r =
    let x = only (λ place. false) ks e place r in
    let z : ◌≡◌ {A = ℕ} 0 1 = cc in
    omega arith

-- ---- a restart

-- the four in order, at the list's beginning
four_alone : RestartAt four 4
four_alone = record { before = []; behind = []; parted = refl; end = refl }

four_alone_only : (place : ℕ) → RestartAt four place → eqb place 4 ≡ true
unfolding count_after
four_alone_only = only (λ place. eqb place 4) four refl

-- a part number datagram twice, then the other three
abbrev part_number_twice : List Kind
part_number_twice = PartNumber ∷ four

twice_begun : RestartAt part_number_twice 5
twice_begun = record { before = PartNumber ∷ []; behind = []; parted = refl; end = refl }

twice_begun_only : (place : ℕ) → RestartAt part_number_twice place → eqb place 5 ≡ true
unfolding count_after
twice_begun_only = only (λ place. eqb place 5) part_number_twice refl

-- the four twice make two
four_twice : RestartAt (four ++ four) 4 × RestartAt (four ++ four) 8
four_twice = (record { before = []; behind = four; parted = refl; end = refl }, record { before = four; behind = []; parted = refl; end = refl })

four_twice_only : (place : ℕ) → RestartAt (four ++ four) place → eqb place 4 || eqb place 8 ≡ true
unfolding count_after
four_twice_only = only (λ place. eqb place 4 || eqb place 8) (four ++ four) refl

-- ---- none

-- the last of the four is missing
three_of_four : (place : ℕ) → RestartAt (PartNumber ∷ SerialNumber ∷ Configuration ∷ Normal ∷ []) place → ⊥
unfolding count_after
three_of_four = none (PartNumber ∷ SerialNumber ∷ Configuration ∷ Normal ∷ []) refl

-- the first is
first_missing : (place : ℕ) → RestartAt (Normal ∷ SerialNumber ∷ Configuration ∷ BiasTrim ∷ []) place → ⊥
unfolding count_after
first_missing = none (Normal ∷ SerialNumber ∷ Configuration ∷ BiasTrim ∷ []) refl

-- out of order
out_of_order : (place : ℕ) → RestartAt (SerialNumber ∷ PartNumber ∷ Configuration ∷ BiasTrim ∷ []) place → ⊥
unfolding count_after
out_of_order = none (SerialNumber ∷ PartNumber ∷ Configuration ∷ BiasTrim ∷ []) refl

-- another datagram between
normal_between : (place : ℕ) → RestartAt (PartNumber ∷ SerialNumber ∷ Normal ∷ Configuration ∷ BiasTrim ∷ []) place → ⊥
unfolding count_after
normal_between = none (PartNumber ∷ SerialNumber ∷ Normal ∷ Configuration ∷ BiasTrim ∷ []) refl

error_between : (place : ℕ) → RestartAt (PartNumber ∷ SerialNumber ∷ Configuration ∷ ExtendedError ∷ BiasTrim ∷ []) place → ⊥
unfolding count_after
error_between = none (PartNumber ∷ SerialNumber ∷ Configuration ∷ ExtendedError ∷ BiasTrim ∷ []) refl
