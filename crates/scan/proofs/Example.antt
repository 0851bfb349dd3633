-- Worked by computation: datagrams of three bytes that begin with 7 and end with 1.
-- Assumes nothing.
use Prim.Native.Nat.{ℕ}
use mathlib.Core.Path.{◌≡◌, refl}
use mathlib.Core.Bool.{Bool, true, ◌&&◌}
use mathlib.Core.List.{List, [], ◌∷◌}
use native.Mathlib.Omega.{arith}
use borrow.Author.Tests.{eqb-true}
use lib.Dec.{eqb}
use lib.ListN.{length, get_or}
use Rattle.integers.proofs.Booleans.{and_split}
use Rattle.scan.specs.Scan.{scan_from, scan, first}
use Rattle.scan.specs.Front.{front}
use Rattle.scan.specs.Rules.{Limits, Rules, verdict}
use Rattle.scan.specs.OneLength.{one_length}
use Rattle.scan.specs.Calls.{fresh, Report, datagram, waiting, takes, call}
use Rattle.scan.specs.Carry.{Session, fresh_session, SessionRun, plain, Delivered}
use Rattle.scan.proofs.RunLaws.{always_delivered, plain_invariant}
use Rattle.scan.proofs.OneLength.{one_length_lawful, one_length_prompt}

abbrev three : List ℕ → Bool
three d = eqb (length d) 3 && (eqb (get_or d 0 0) 7 && eqb (get_or d 2 0) 1)

three_long : (d : List ℕ) → three d ≡ true → length d ≡ 3
three_long d e = eqb-true _ _ (and_split (eqb (length d) 3) _ e).0

three_begins : (d : List ℕ) → three d ≡ true → get_or d 0 0 ≡ 7
three_begins d e =
    let r = (and_split (eqb (length d) 3) (eqb (get_or d 0 0) 7 && eqb (get_or d 2 0) 1) e).1 in
    eqb-true _ _ (and_split (eqb (get_or d 0 0) 7) (eqb (get_or d 2 0) 1) r).0

module _ (L : Limits) where
  abbrev rules : Rules
  rules = one_length 7 3 three L

  -- a true datagram that begins inside a candidate that failed is found
  whole_stream :
      scan (verdict rules) (7 ∷ 7 ∷ 4 ∷ 1 ∷ 9 ∷ 7 ∷ []) ≡ record { datagrams = (7 ∷ 4 ∷ 1 ∷ []) ∷ []; passed = 2; held = 7 ∷ [] }
  unfolding scan_from front
  whole_stream = refl

  -- the same stream by calls: two bytes wait; of four more, two complete the datagram; the rest waits
  first_call :
      call (verdict rules) fresh (7 ∷ 7 ∷ [])
      ≡ record { answer = waiting; taken = 2; next = record { held = 7 ∷ 7 ∷ []; handed = 0; passed = 0; fed = 2 } }
  unfolding call takes first front
  first_call = refl

  second_call :
      call (verdict rules) (record { held = 7 ∷ 7 ∷ []; handed = 0; passed = 0; fed = 2 }) (4 ∷ 1 ∷ 9 ∷ 7 ∷ [])
      ≡ record { answer = datagram (7 ∷ 4 ∷ 1 ∷ []); taken = 2; next = record { held = []; handed = 3; passed = 1; fed = 4 } }
  unfolding call takes first front
  second_call = refl

  -- all that the laws ask is met
  delivered :
      {ps os : List (List ℕ)} {rs : List Report} {t : Session (Unit {0})} → SessionRun plain rules (fresh_session plain) ps os rs t
      → Delivered plain rules ps os rs t
  delivered c =
      always_delivered plain rules (one_length_lawful 7 3 three L (omega arith) three_long three_begins) (plain_invariant three)
      (one_length_prompt 7 3 three L (omega arith) three_long three_begins).undecided c
