-- The scan of a stream (01, The scan), over any verdict on the front of the undecided bytes.
-- Assumes nothing.
use Rattle.std.specs.Prelude.{ℕ, zero, suc, pred, ◌+◌, ◌≤◌, ◌≡◌, List, [], ◌∷◌, ◌++◌, length, take, drop}

-- What is decided at the front of the undecided bytes: wait for more, pass over one byte only, hand out so many bytes
pub data Verdict : Type 0 where
  waits : Verdict
  passes : Verdict
  hands : ℕ → Verdict

-- What the scan of a whole stream gives: the datagrams in order, the number of bytes passed over, the bytes held at its end
pub record Scanned : Type 0 where
  pub datagrams : List (List ℕ)
  pub passed : ℕ
  pub held : List ℕ

abbrev pub holding : List ℕ → Scanned
holding h = record { datagrams = []; passed = 0; held = h }

abbrev pub passing : ℕ → Scanned → Scanned
passing n r = record { datagrams = r.datagrams; passed = n + r.passed; held = r.held }

abbrev pub handing : List ℕ → Scanned → Scanned
handing d r = record { datagrams = d ∷ r.datagrams; passed = r.passed; held = r.held }

-- One decision on the undecided bytes u; `on k` is the scan of what stands behind the front byte and k further ones
abbrev pub decided : Verdict → List ℕ → (ℕ → Scanned) → Scanned
decided waits u on = holding u
decided passes u on = passing 1 (on 0)
decided (hands n) u on = handing (take n u) (on (pred n))

module _ (verdict : List ℕ → Verdict) where
  -- the scan of a stream whose first k bytes belong to the datagram handed out last
  unfoldable pub scan_from : ℕ → List ℕ → Scanned
  scan_from k [] = holding []
  scan_from zero (b ∷ u) = decided (verdict (b ∷ u)) (b ∷ u) (λ (k : ℕ). scan_from k u)
  scan_from (suc k) (b ∷ u) = scan_from k u

  -- The scan of a whole stream
  abbrev pub scan : List ℕ → Scanned
  scan = scan_from 0

-- What the scan up to its first datagram gives: the bytes passed over, and then the bytes held at the end, or the datagram and the undecided rest
pub data First : Type 0 where
  ends : ℕ → List ℕ → First
  finds : ℕ → List ℕ → List ℕ → First

abbrev pub later : ℕ → First → First
later n (ends m h) = ends (n + m) h
later n (finds m d r) = finds (n + m) d r

abbrev pub first_by : Verdict → List ℕ → First → First
first_by waits u f = ends 0 u
first_by passes u f = later 1 f
first_by (hands n) u f = finds 0 (take n u) (drop n u)

module _ (verdict : List ℕ → Verdict) where
  -- The scan up to its first datagram
  unfoldable pub first : List ℕ → First
  first [] = ends 0 []
  first (b ∷ u) = first_by (verdict (b ∷ u)) (b ∷ u) (first u)

  -- Nothing is decided of u: it is empty, or the verdict on it waits
  abbrev pub Undecided : List ℕ → Type 0
  Undecided [] = Unit {0}
  Undecided (b ∷ u) = verdict (b ∷ u) ≡ waits

  -- A verdict that can be cut anywhere: more bytes alter neither `passes` nor `hands n`, and what is handed out is there
  pub record Stable : Type 0 where
    pub passes_on : (u v : List ℕ) → verdict u ≡ passes → verdict (u ++ v) ≡ passes
    pub hands_on : (u v : List ℕ) (n : ℕ) → verdict u ≡ hands n → verdict (u ++ v) ≡ hands n
    pub some : (u : List ℕ) (n : ℕ) → verdict u ≡ hands n → 1 ≤ n
    pub there : (u : List ℕ) (n : ℕ) → verdict u ≡ hands n → n ≤ length u
