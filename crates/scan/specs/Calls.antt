-- A session's bytes and counts, a call on a piece, a list of pieces fed by calls (01, The scan; What is turned down, 10 to 12).
-- Assumes nothing.
use Rattle.std.specs.Prelude.{ℕ, suc, ◌+◌, ◌≡◌, Bool, cond, ◌&&◌, List, [], ◌∷◌, ◌++◌, eqb, leb, length, take, drop}
use Rattle.scan.specs.Scan.{Verdict, First, ends, finds, first}
use Rattle.scan.specs.Rules.{Rules, verdict}
use Rattle.refusals.specs.declared.Refusal.{Refusal}
use Rattle.refusals.specs.declared.Refusal.TheVariants.{SessionUnsound, StreamTooLong}

-- What a session keeps of the scan: the bytes held, and how many bytes were handed out, passed over and fed
pub record State : Type 0 where
  pub held : List ℕ
  pub handed : ℕ
  pub passed : ℕ
  pub fed : ℕ

-- A fresh session holds nothing
abbrev pub fresh : State
fresh = record { held = []; handed = 0; passed = 0; fed = 0 }

-- What refusal 10 asks of the bytes and counts: held bytes by the rule, a byte sum that is right, no more fed than a session's bytes
unfoldable pub sound : Rules → State → Bool
sound R s =
    R.may_hold s.held && (eqb (s.handed + s.passed + length s.held) s.fed && leb s.fed R.limits.session)

-- Which happened: a datagram was handed out, the piece ended, the call was refused
pub data Answer (O : Type 0) : Type 0 where
  datagram : O → Answer O
  waiting : Answer O
  refused : Refusal → Answer O

-- What a call tells: which happened, how many bytes it took, the new session
pub record Fed (S O : Type 0) : Type 0 where
  pub answer : Answer O
  pub taken : ℕ
  pub next : S

abbrev pub refusing : {S O : Type 0} → Refusal → S → Fed S O
refusing n s = record { answer = refused n; taken = 0; next = s }

-- no more bytes once a datagram is found
abbrev pub unless_found : First → ℕ → ℕ
unless_found (ends n h) k = k
unless_found (finds n d r) k = 0

abbrev pub answered : First → Answer (List ℕ)
answered (ends n h) = waiting
answered (finds n d r) = datagram d

-- the state behind k more bytes taken; what is undecided stays held
abbrev pub after : State → ℕ → First → State
after s k (ends n h) = record { held = h; handed = s.handed; passed = s.passed + n; fed = s.fed + k }
after s k (finds n d r) = record { held = r; handed = s.handed + length d; passed = s.passed + n; fed = s.fed + k }

abbrev pub taking : State → ℕ → First → Fed State (List ℕ)
taking s k f = record { answer = answered f; taken = k; next = after s k f }

module _ (verdict : List ℕ → Verdict) where
  -- How many bytes a call takes of a piece, u being held: one after the other, until the scan of u and those taken finds a datagram or the piece ends
  unfoldable pub takes : List ℕ → List ℕ → ℕ
  takes u [] = 0
  takes u (b ∷ p) = unless_found (first verdict u) (suc (takes (u ++ b ∷ []) p))

  -- A call that is not refused
  unfoldable pub call : State → List ℕ → Fed State (List ℕ)
  call s p =
      let k : ℕ = takes s.held p in
      taking s k (first verdict (s.held ++ take k p))

-- A call, of whether the session is sound: refused by 10, as a piece that is too long, or by 12, or made
unfoldable pub feed : Rules → Bool → State → List ℕ → Fed State (List ℕ)
feed R ok s p =
    cond ok
    (cond (leb (length p) R.limits.piece)
    (cond (leb (s.fed + length p) R.limits.session) (call (verdict R) s p) (refusing StreamTooLong s))
    (refusing R.limits.too_long s))
    (refusing SessionUnsound s)

-- What became of a piece: taken whole, or turned down
pub data Outcome : Type 0 where
  taken_whole : Outcome
  turned_down : Refusal → Outcome

-- with how many bytes its calls took of it
pub record Report : Type 0 where
  pub outcome : Outcome
  pub taken : ℕ

abbrev pub taking_more : ℕ → Report → Report
taking_more k r = record { outcome = r.outcome; taken = k + r.taken }

-- A list of pieces fed by calls of `feed`: from a session, what was handed out in order, a report of each piece, the session at the end.
-- What a call leaves untaken of a piece is fed next, before the following piece; a piece that is refused isn't fed again.
pub data Run {S O : Type 0} (feed : S → List ℕ → Fed S O) : S → List (List ℕ) → List O → List Report → S → Type 0 where
  none : {s : S} → Run feed s [] [] [] s
  refuse :
      {s t : S} {p : List ℕ} {ps : List (List ℕ)} {os : List O} {rs : List Report} (n : Refusal)
      → (feed s p).answer ≡ refused n
      → Run feed (feed s p).next ps os rs t
      → Run feed s (p ∷ ps) os (record { outcome = turned_down n; taken = (feed s p).taken } ∷ rs) t
  wait :
      {s t : S} {p : List ℕ} {ps : List (List ℕ)} {os : List O} {rs : List Report}
      → (feed s p).answer ≡ waiting
      → Run feed (feed s p).next ps os rs t
      → Run feed s (p ∷ ps) os (record { outcome = taken_whole; taken = (feed s p).taken } ∷ rs) t
  hand :
      {s t : S} {p : List ℕ} {o : O} {ps : List (List ℕ)} {os : List O} {r : Report} {rs : List Report}
      → (feed s p).answer ≡ datagram o
      → Run feed (feed s p).next (drop (feed s p).taken p ∷ ps) os (r ∷ rs) t
      → Run feed s (p ∷ ps) (o ∷ os) (taking_more (feed s p).taken r ∷ rs) t
  -- where nothing is left of a piece, no call is needed
  skip :
      {s t : S} {ps : List (List ℕ)} {os : List O} {rs : List Report}
      → Run feed s ps os rs t
      → Run feed s ([] ∷ ps) os (record { outcome = taken_whole; taken = 0 } ∷ rs) t
