-- A session that carries more than the scan: what each datagram does to it and what comes back with the datagram.
-- Assumes nothing.
use Rattle.std.specs.Prelude.{ℕ, ◌+◌, ◌≡◌, Bool, true, ◌&&◌, List, [], ◌∷◌, length}
use Rattle.integers.specs.Bytes.{joined}
use Rattle.scan.specs.Scan.{scan}
use Rattle.scan.specs.Rules.{Rules, verdict}
use Rattle.scan.specs.Calls.{State, fresh, sound, Answer, datagram, waiting, refused, Fed, feed, Report, Run}
use Rattle.scan.specs.Stream.{reports, stream, Among, Bare}

-- X is what is carried, O what comes back with a datagram
pub record Consumer (X O : Type 0) : Type 0 where
  pub start : X
  -- whether the next datagram counts as a first one
  pub awaits_first : X → Bool
  -- of that mark: what a datagram does to what is carried, and what comes back with it
  pub step : Bool → X → List ℕ → X
  pub tell : Bool → X → List ℕ → O
  -- what refusal 10 asks of what is carried after so many bytes handed out
  pub admits : ℕ → X → Bool

module _ {X O : Type 0} (K : Consumer X O) where
  -- what a datagram does and what comes back with it, of what is carried: both by the one mark
  abbrev pub steps : X → List ℕ → X
  steps x d = K.step (K.awaits_first x) x d

  abbrev pub tells : X → List ℕ → O
  tells x d = K.tell (K.awaits_first x) x d

  -- What comes back with each of a list of datagrams, and what is carried after them
  unfoldable pub told : X → List (List ℕ) → List O
  told x [] = []
  told x (d ∷ ds) = tells x d ∷ told (steps x d) ds

  unfoldable pub carried_after : X → List (List ℕ) → X
  carried_after x [] = x
  carried_after x (d ∷ ds) = carried_after (steps x d) ds

  -- of a call's answer: what comes back, and what is carried on
  abbrev pub reply : X → Answer (List ℕ) → Answer O
  reply x (datagram d) = datagram (tells x d)
  reply x waiting = waiting
  reply x (refused n) = refused n

  abbrev pub carried_on : X → Answer (List ℕ) → X
  carried_on x (datagram d) = steps x d
  carried_on x waiting = x
  carried_on x (refused n) = x

-- The whole session
pub record Session (X : Type 0) : Type 0 where
  pub scan : State
  pub carried : X

module _ {X O : Type 0} (K : Consumer X O) where
  abbrev pub fresh_session : Session X
  fresh_session = record { scan = fresh; carried = K.start }

  -- what refusal 10 asks of the whole session
  abbrev pub sound_session : Rules → Session X → Bool
  sound_session R s = sound R s.scan && K.admits s.scan.handed s.carried

  abbrev pub carrying : Session X → Fed State (List ℕ) → Fed (Session X) O
  carrying s c =
      record {
        answer = reply K s.carried c.answer;
        taken = c.taken;
        next = record { scan = c.next; carried = carried_on K s.carried c.answer };
      }

  -- A call on the whole session
  unfoldable pub feed_session : Rules → Session X → List ℕ → Fed (Session X) O
  feed_session R s p = carrying s (feed R (sound_session R s) s.scan p)

  -- A list of pieces fed by such calls
  abbrev pub SessionRun : Rules → Session X → List (List ℕ) → List O → List Report → Session X → Type 0
  SessionRun R = Run (feed_session R)

-- What refusal 10 asks of what is carried stands at the start and after every acceptable datagram
pub record Invariant {X O : Type 0} (K : Consumer X O) (acceptable : List ℕ → Bool) : Type 0 where
  pub at_start : K.admits 0 K.start ≡ true
  pub at_step :
      (n : ℕ) (x : X) (d : List ℕ) → acceptable d ≡ true → K.admits n x ≡ true
      → K.admits (n + length d) (steps K x d) ≡ true

-- Nothing carried, and the datagram itself comes back
abbrev pub plain : Consumer (Unit {0}) (List ℕ)
plain = record { start = tt; awaits_first = λ x. true; step = λ f x d. x; tell = λ f x d. d; admits = λ n x. true }

-- What is promised of a list of pieces fed to a fresh session: of what was handed out, the reports and the session at the end
pub record Delivered {X O : Type 0} (K : Consumer X O) (R : Rules)
    (ps : List (List ℕ)) (os : List O) (rs : List Report) (t : Session X) : Type 0 where
  pub datagrams : List (List ℕ)
  -- these are the stream's datagrams, and no other list is, if none begins among the bytes held at the end
  pub among : Bare R.acceptable t.scan.held → Among R.acceptable (stream R.limits 0 ps) datagrams
  pub only :
      Bare R.acceptable t.scan.held → (ds : List (List ℕ)) → Among R.acceptable (stream R.limits 0 ps) ds → ds ≡ datagrams
  -- each was handed out once, in its order
  pub handed_out : os ≡ told K K.start datagrams
  pub carried : t.carried ≡ carried_after K K.start datagrams
  -- each piece was taken whole, or turned down as too long or else by 12
  pub reported : rs ≡ reports R.limits 0 ps
  -- the bytes fed are the stream's: each was handed out, passed over or is held
  pub fed : t.scan.fed ≡ length (stream R.limits 0 ps)
  pub handed : t.scan.handed ≡ length (joined datagrams)
  pub passed : t.scan.passed ≡ (scan (verdict R) (stream R.limits 0 ps)).passed
  pub held : t.scan.held ≡ (scan (verdict R) (stream R.limits 0 ps)).held
  pub sum : t.scan.handed + t.scan.passed + length t.scan.held ≡ t.scan.fed
  pub safe : sound_session K R t ≡ true
