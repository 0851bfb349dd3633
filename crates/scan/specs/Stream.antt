-- The stream that a list of pieces makes, and the datagrams in a stream (01, Totals, the last two paragraphs).
-- Nothing of it knows the verdict or the call.
-- Assumes nothing.
use Rattle.std.specs.Prelude.{ℕ, ◌+◌, ◌≤◌, ◌≡◌, Bool, cond, true, List, [], ◌∷◌, ◌++◌, leb, length, take, drop}
use Rattle.scan.specs.Rules.{Limits}
use Rattle.scan.specs.Calls.{Outcome, taken_whole, turned_down, Report}
use Rattle.refusals.specs.declared.Refusal.TheVariants.{SessionUnsound, StreamTooLong}

-- What becomes of a piece of k bytes behind n earlier ones that were taken: turned down as too long, or else by 12, or taken whole
unfoldable pub outcome : Limits → ℕ → ℕ → Outcome
outcome L n k = cond (leb k L.piece) (cond (leb (n + k) L.session) taken_whole (turned_down StreamTooLong)) (turned_down L.too_long)

-- the bytes taken of a piece
abbrev pub taken_by : Outcome → List ℕ → List ℕ
taken_by taken_whole p = p
taken_by (turned_down n) p = []

-- The report of each piece, behind n bytes taken
unfoldable pub reports : Limits → ℕ → List (List ℕ) → List Report
reports L n [] = []
reports L n (p ∷ ps) =
    let o : Outcome = outcome L n (length p) in
    record { outcome = o; taken = length (taken_by o p) } ∷ reports L (n + length (taken_by o p)) ps

-- no piece is reported as turned down by 10
abbrev pub NoTen : List Report → Type 0
NoTen [] = Unit {0}
NoTen (r ∷ rs) = (r.outcome ≡ turned_down SessionUnsound → ⊥) × NoTen rs

-- The stream: the pieces that are not left out, joined
unfoldable pub stream : Limits → ℕ → List (List ℕ) → List ℕ
stream L n [] = []
stream L n (p ∷ ps) =
    let o : Outcome = outcome L n (length p) in
    taken_by o p ++ stream L (n + length (taken_by o p)) ps

module _ (acceptable : List ℕ → Bool) where
  -- An acceptable datagram begins at the first byte of u: that byte and enough of those that follow it make one up
  pub record Begins (u : List ℕ) : Type 0 where
    pub size : ℕ
    pub some : 1 ≤ size
    pub there : size ≤ length u
    pub made : acceptable (take size u) ≡ true

  -- A stream is these datagrams, whole and in order, among bytes at which none begins
  pub data Among : List ℕ → List (List ℕ) → Type 0 where
    end : Among [] []
    other : {b : ℕ} {u : List ℕ} {ds : List (List ℕ)} → (Begins (b ∷ u) → ⊥) → Among u ds → Among (b ∷ u) ds
    then : {d u : List ℕ} {ds : List (List ℕ)} → acceptable d ≡ true → Among u ds → Among (d ++ u) (d ∷ ds)

  -- at no byte of u does one begin
  abbrev pub Bare : List ℕ → Type 0
  Bare u = (k : ℕ) → Begins (drop k u) → ⊥
