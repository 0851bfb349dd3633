-- What is decided at the front of the undecided bytes (01, The scan).
-- Assumes nothing.
use Rattle.std.specs.Prelude.{ℕ, zero, suc, ◌≤◌, ◌≡◌, Bool, true, false, List, [], ◌∷◌, leb, length, take, get_or}
use Rattle.scan.specs.Scan.{Verdict, waits, passes, hands}

-- Of the length of a datagram that begins with the front byte, whether as many bytes are there, and whether these are acceptable:
-- a byte that begins none, of length 0, is passed over; with another there the scan waits for that many bytes;
-- if they are acceptable it hands them out, otherwise it passes over one byte only
abbrev pub front_by : ℕ → Bool → Bool → Verdict
front_by zero enough right = passes
front_by (suc n) false right = waits
front_by (suc n) true true = hands (suc n)
front_by (suc n) true false = passes

-- candidate: a first byte to the length of a datagram that begins with it, 0 for a byte that begins none
module _ (candidate : ℕ → ℕ) (acceptable : List ℕ → Bool) where
  unfoldable pub front : List ℕ → Verdict
  front [] = waits
  front (b ∷ u) = front_by (candidate b) (leb (candidate b) (length (b ∷ u))) (acceptable (take (candidate b) (b ∷ u)))

  -- An acceptable datagram is a byte at least, and has the length that its first byte tells
  pub record Shaped : Type 0 where
    pub some : (d : List ℕ) → acceptable d ≡ true → 1 ≤ length d
    pub long : (d : List ℕ) → acceptable d ≡ true → candidate (get_or d 0 0) ≡ length d
