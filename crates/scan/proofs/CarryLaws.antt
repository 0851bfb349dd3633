-- Laws of a session that carries more than the scan: a refused call, what is carried, and what comes back with each datagram by its place.
-- Assumes nothing.
use Prim.Native.Nat.{ℕ, zero, suc, ◌+◌, ◌*◌, ◌≤◌, ◌<◌}
use mathlib.Core.Path.{◌≡◌, refl, sym, ap}
use mathlib.Core.Bool.{Bool, true, false}
use mathlib.Core.List.{List, [], ◌∷◌, ◌++◌}
use native.Mathlib.Nat.{add-zero, mul-add, mul-one, mul-zero}
use native.Mathlib.Numerals.{add-one}
use native.Mathlib.Omega.{arith}
use lib.ListN.{length, take, get_or, length-append}
use Rattle.integers.specs.Bytes.{joined}
use Rattle.scan.specs.Rules.{Rules, verdict}
use Rattle.scan.specs.Calls.{State, Answer, datagram, waiting, refused, refusing, feed}
use Rattle.scan.specs.Stream.{Among, end, other, then}
use Rattle.scan.specs.Carry.{Consumer, steps, tells, told, carried_after, reply, Session, carrying}
use Rattle.scan.proofs.CallsLaws.{call_fed, feed_unsound, View, over, past, made, view, refused_same}
use Rattle.refusals.specs.declared.Refusal.{Refusal}

-- bytes fed grow by the bytes that a call takes, none where it is refused
pub feed_fed : (R : Rules) (ok : Bool) (s : State) (p : List ℕ) → (feed R ok s p).next.fed ≡ s.fed + (feed R ok s p).taken
feed_fed R false s p = rw (feed_unsound R s p) (sym (add-zero s.fed))
feed_fed R true s p = by (view R s p)
  where
    by : View R s p → (feed R true s p).next.fed ≡ s.fed + (feed R true s p).taken
    by (over h q) = rw q (sym (add-zero s.fed))
    by (past h k q) = rw q (sym (add-zero s.fed))
    by (made h k q) = rw q (call_fed (verdict R) s p)

module _ {X O : Type 0} (K : Consumer X O) where
  -- a reply is a refusal only where the call was one
  pub reply_refused : (x : X) (a : Answer (List ℕ)) {n : Refusal} → reply K x a ≡ refused n → a ≡ refused n
  reply_refused x (datagram d) e = absurd (let z : ◌≡◌ {A = ℕ} 0 1 = cc in omega arith)
  reply_refused x waiting e = absurd (let z : ◌≡◌ {A = ℕ} 0 1 = cc in omega arith)
  reply_refused x (refused m) {n} e = let z : m ≡ n = cc in ap refused z

  -- a refused call takes nothing and leaves the session as it was
  pub session_refused :
      (R : Rules) (ok : Bool) (s : Session X) (p : List ℕ) {n : Refusal} → (carrying K s (feed R ok s.scan p)).answer ≡ refused n
      → carrying K s (feed R ok s.scan p) ≡ refusing n s
  session_refused R ok s p e =
      ap (carrying K s) (refused_same R s.scan p ok (reply_refused s.carried (feed R ok s.scan p).answer e))

  -- what is carried after one list of datagrams and then another
  pub carried_append : (x : X) (ds es : List (List ℕ)) → carried_after K x (ds ++ es) ≡ carried_after K (carried_after K x ds) es
  unfolding carried_after
  carried_append x [] es = refl
  carried_append x (d ∷ ds) es = carried_append (steps K x d) ds es

  -- and what comes back with them
  pub told_append : (x : X) (ds es : List (List ℕ)) → told K x (ds ++ es) ≡ told K x ds ++ told K (carried_after K x ds) es
  unfolding told carried_after
  told_append x [] es = refl
  told_append x (d ∷ ds) es = ap (λ (os : List O). tells K x d ∷ os) (told_append (steps K x d) ds es)

  -- what comes back with the datagram at a place: of what is carried after those before it
  pub told_at :
      (x : X) (ds : List (List ℕ)) (i : ℕ) (o : O) → i < length ds
      → get_or (told K x ds) i o ≡ tells K (carried_after K x (take i ds)) (get_or ds i [])
  unfolding told carried_after
  told_at x [] i o h = absurd (omega arith)
  told_at x (d ∷ ds) zero o h = refl
  told_at x (d ∷ ds) (suc i) o h = told_at (steps K x d) ds i o (omega arith)

  -- what is carried behind the datagram at a place
  pub carried_next :
      (x : X) (ds : List (List ℕ)) (i : ℕ) → i < length ds → carried_after K x (take (suc i) ds) ≡ steps K (carried_after K x (take i ds)) (get_or ds i [])
  unfolding carried_after
  carried_next x [] i h = absurd (omega arith)
  carried_next x (d ∷ ds) zero h = refl
  carried_next x (d ∷ ds) (suc i) h = carried_next (steps K x d) ds i (omega arith)

  pub told_beyond : (x : X) (ds : List (List ℕ)) (i : ℕ) (o : O) → length ds ≤ i → get_or (told K x ds) i o ≡ o
  unfolding told
  told_beyond x [] i o h = refl
  told_beyond x (d ∷ ds) zero o h = absurd (omega arith)
  told_beyond x (d ∷ ds) (suc i) o h = told_beyond (steps K x d) ds i o (omega arith)

  pub length_told : (x : X) (ds : List (List ℕ)) → length (told K x ds) ≡ length ds
  unfolding told
  length_told x [] = refl
  length_told x (d ∷ ds) = ap suc (length_told (steps K x d) ds)

-- every datagram of a stream is acceptable
pub among_each :
    {acceptable : List ℕ → Bool} {v : List ℕ} {ds : List (List ℕ)} → Among acceptable v ds → (i : ℕ) → i < length ds
    → acceptable (get_or ds i []) ≡ true
among_each end i h = absurd (omega arith)
among_each (other n a) i h = among_each a i h
among_each (then e a) zero h = e
among_each (then e a) (suc i) h = among_each a i (omega arith)

-- of n bytes each at least, they take so many together
pub joined_least :
    {acceptable : List ℕ → Bool} (n : ℕ) → ((d : List ℕ) → acceptable d ≡ true → n ≤ length d)
    → {v : List ℕ} {ds : List (List ℕ)} → Among acceptable v ds → n * length ds ≤ length (joined ds)
joined_least n least end = omega (arith, mul-zero n)
joined_least n least (other x a) = joined_least n least a
joined_least n least (then {d = d} {ds = ds} e a) =
    omega (
      arith,
      length-append d (joined ds),
      least d e,
      joined_least n least a,
      mul-add n (length ds) 1,
      mul-one n,
      ap (λ (k : ℕ). n * k) (add-one (length ds)),
    )
