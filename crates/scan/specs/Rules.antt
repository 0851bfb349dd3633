-- The rules that a scan goes by, in one record, and how they belong together.
-- Assumes nothing.
use Rattle.refusals.specs.declared.Refusal.{Refusal}
use Rattle.std.specs.Prelude.{ℕ, ◌≤◌, ◌<◌, ◌≡◌, Bool, true, List, [], ◌∷◌, ◌++◌, length}
use Rattle.scan.specs.Scan.{Verdict, finds, first, Undecided}
use Rattle.scan.specs.Front.{front, Shaped}

-- The most bytes of a piece, what refuses a longer one, the most bytes of a session (01, What is turned down, 10 to 12)
pub record Limits : Type 0 where
  pub piece : ℕ
  pub too_long : Refusal
  pub session : ℕ

pub record Rules : Type 0 where
  -- a first byte to the length of a datagram that begins with it, 0 for a byte that begins none
  pub candidate : ℕ → ℕ
  -- which bytes are an acceptable datagram
  pub acceptable : List ℕ → Bool
  -- which bytes a session may hold
  pub may_hold : List ℕ → Bool
  -- the greatest length of a datagram
  pub greatest : ℕ
  pub limits : Limits

-- what is decided at the front of the undecided bytes
abbrev pub verdict : Rules → List ℕ → Verdict
verdict R = front R.candidate R.acceptable

-- What may be held: bytes that are undecided; what stands behind a datagram that bytes held have in them; what stands behind one that
-- a further byte completes. All of it is shorter than the longest datagram.
pub record Holds (R : Rules) : Type 0 where
  pub undecided : (u : List ℕ) → Undecided (verdict R) u → R.may_hold u ≡ true
  pub behind_held :
      (u : List ℕ) → R.may_hold u ≡ true → (n : ℕ) (d r : List ℕ) → first (verdict R) u ≡ finds n d r → R.may_hold r ≡ true
  pub behind_next :
      (u : List ℕ) → Undecided (verdict R) u → (b n : ℕ) (d r : List ℕ) → first (verdict R) (u ++ b ∷ []) ≡ finds n d r
      → R.may_hold r ≡ true
  pub shorter : (u : List ℕ) → R.may_hold u ≡ true → length u < R.greatest

-- That the rules belong together
pub record Lawful (R : Rules) : Type 0 where
  pub shaped : Shaped R.candidate R.acceptable
  pub longest : (d : List ℕ) → R.acceptable d ≡ true → length d ≤ R.greatest
  pub holds : Holds R
