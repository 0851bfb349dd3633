-- Laws of the stream that a list of pieces makes, and of the pieces' reports.
-- Assumes nothing.
use Prim.Native.Nat.{ℕ, ◌+◌, ◌-◌, ◌≤◌, ◌<◌}
use mathlib.Core.Path.{◌≡◌, refl, ap, ◌∙◌}
use mathlib.Core.List.{List, [], ◌∷◌, ◌++◌}
use native.Mathlib.Nat.{add-zero}
use native.Mathlib.Decide.{dec_le}
use native.Mathlib.Omega.{arith}
use borrow.Author.Tests.{le-leb, lt-leb}
use lib.ListN.{length, drop, length-append, length-drop}
use Rattle.integers.specs.Bytes.{joined}
use Rattle.scan.specs.Rules.{Limits}
use Rattle.scan.specs.Calls.{taken_whole, turned_down, Report, taking_more}
use Rattle.scan.specs.Stream.{outcome, taken_by, reports, NoTen, stream}
use Rattle.refusals.specs.declared.Refusal.{Refusal}
use Rattle.refusals.specs.declared.Refusal.TheVariants.{SessionUnsound, StreamTooLong}

module _ (L : Limits) (n k : ℕ) where
  pub outcome_over : L.piece < k → outcome L n k ≡ turned_down L.too_long
  unfolding outcome
  outcome_over h = rw (lt-leb k L.piece h)

  pub outcome_past : k ≤ L.piece → L.session < n + k → outcome L n k ≡ turned_down StreamTooLong
  unfolding outcome
  outcome_past h l = rw (le-leb k L.piece h, lt-leb (n + k) L.session l)

  pub outcome_taken : k ≤ L.piece → n + k ≤ L.session → outcome L n k ≡ taken_whole
  unfolding outcome
  outcome_taken h l = rw (le-leb k L.piece h, le-leb (n + k) L.session l)

  -- one of the three it is
  data Sorted : Type 0 where
    over : L.piece < k → outcome L n k ≡ turned_down L.too_long → Sorted
    past : k ≤ L.piece → L.session < n + k → outcome L n k ≡ turned_down StreamTooLong → Sorted
    taken : k ≤ L.piece → n + k ≤ L.session → outcome L n k ≡ taken_whole → Sorted

  sorted : Sorted
  sorted = go (dec_le k L.piece) (dec_le (n + k) L.session)
    where
      go : Dec (k ≤ L.piece) → Dec (n + k ≤ L.session) → Sorted
      go (no h) l = let g : L.piece < k = omega arith in over g (outcome_over g)
      go (yes h) (no l) = let g : L.session < n + k = omega arith in past h g (outcome_past h g)
      go (yes h) (yes l) = taken h l (outcome_taken h l)

  outcome_not_ten : (L.too_long ≡ SessionUnsound → ⊥) → outcome L n k ≡ turned_down SessionUnsound → ⊥
  outcome_not_ten ten e = by sorted
    where
      other : {m : Refusal} → (m ≡ SessionUnsound → ⊥) → outcome L n k ≡ turned_down m → ⊥
      other h q = h (cc)

      by : Sorted → ⊥
      by (over a q) = other ten q
      by (past a b q) = other (λ z. let y : ◌≡◌ {A = ℕ} 0 1 = cc in omega arith) q
      by (taken a b q) = let z : ◌≡◌ {A = ℕ} 0 1 = cc in omega arith

module _ (L : Limits) (n : ℕ) (p : List ℕ) (ps : List (List ℕ)) where
  -- a piece that is turned down is left out
  pub stream_down : {m : Refusal} → outcome L n (length p) ≡ turned_down m → stream L n (p ∷ ps) ≡ stream L n ps
  unfolding stream
  stream_down e = simp (e, add-zero)

  pub reports_down :
      {m : Refusal} → outcome L n (length p) ≡ turned_down m
      → reports L n (p ∷ ps) ≡ record { outcome = turned_down m; taken = 0 } ∷ reports L n ps
  unfolding reports
  reports_down e = rw (e, add-zero n)

  -- a piece that is taken whole comes first
  pub stream_whole : outcome L n (length p) ≡ taken_whole → stream L n (p ∷ ps) ≡ p ++ stream L (n + length p) ps
  unfolding stream
  stream_whole e = rw e

  pub reports_whole :
      outcome L n (length p) ≡ taken_whole
      → reports L n (p ∷ ps) ≡ record { outcome = taken_whole; taken = length p } ∷ reports L (n + length p) ps
  unfolding reports
  reports_whole e = rw e

module _ (L : Limits) (n : ℕ) (p : List ℕ) (ps : List (List ℕ)) (small : length p ≤ L.piece) (fits : n + length p ≤ L.session) where
  -- what is left of such a piece behind k bytes of it
  module _ (k : ℕ) (less : k ≤ length p) where
    pub rest_taken : outcome L (n + k) (length (drop k p)) ≡ taken_whole
    rest_taken =
        let l : length (drop k p) ≡ length p - k = length-drop k p in
        outcome_taken L (n + k) (length (drop k p)) (omega arith) (omega arith)

    back : n + k + length (drop k p) ≡ n + length p
    back = omega (arith, length-drop k p)

    pub stream_rest : stream L (n + k) (drop k p ∷ ps) ≡ drop k p ++ stream L (n + length p) ps
    stream_rest = stream_whole L (n + k) (drop k p) ps rest_taken ∙ ap (λ (m : ℕ). drop k p ++ stream L m ps) back

    pub reports_rest :
        {x : Report} {rs : List Report} → x ∷ rs ≡ reports L (n + k) (drop k p ∷ ps)
        → taking_more k x ∷ rs ≡ reports L n (p ∷ ps)
    reports_rest {x} {rs} e =
        go
        (e
        ∙ reports_whole L (n + k) (drop k p) ps rest_taken
        ∙ ap (λ (j : ℕ). record { outcome = taken_whole; taken = length (drop k p) } ∷ reports L j ps) back)
      where
        go :
            x ∷ rs ≡ record { outcome = taken_whole; taken = length (drop k p) } ∷ reports L (n + length p) ps
            → taking_more k x ∷ rs ≡ reports L n (p ∷ ps)
        go f =
            let g : x ≡ record { outcome = taken_whole; taken = length (drop k p) } = cc in
            let h : rs ≡ reports L (n + length p) ps = cc in
            let sum : k + length (drop k p) ≡ length p = omega (arith, back) in
            rw (g, h, sum, reports_whole L n p ps (outcome_taken L n (length p) small fits))

pub reports_no_ten : (L : Limits) → (L.too_long ≡ SessionUnsound → ⊥) → (n : ℕ) (ps : List (List ℕ)) → NoTen (reports L n ps)
unfolding reports
reports_no_ten L ten n [] = tt
reports_no_ten L ten n (p ∷ ps) =
    (outcome_not_ten L n (length p) ten, reports_no_ten L ten (n + length (taken_by (outcome L n (length p)) p)) ps)

-- Pieces that keep to the limits are all taken, joined
abbrev pub Within : ℕ → List (List ℕ) → Type 0
Within m [] = Unit {0}
Within m (p ∷ ps) = (length p ≤ m) × Within m ps

stream_joined :
    (L : Limits) (n : ℕ) (ps : List (List ℕ)) → Within L.piece ps → n + length (joined ps) ≤ L.session → stream L n ps ≡ joined ps
unfolding stream
stream_joined L n [] w h = refl
stream_joined L n (p ∷ ps) w h =
    let l = length-append p (joined ps) in
    stream_whole L n p ps (outcome_taken L n (length p) w.0 (omega arith))
    ∙ ap (λ (v : List ℕ). p ++ v) (stream_joined L (n + length p) ps w.1 (omega arith))

-- Every list of at most a session's bytes is the stream of some list of pieces: its bytes one by one
abbrev singly : List ℕ → List (List ℕ)
singly [] = []
singly (b ∷ u) = (b ∷ []) ∷ singly u

singly_within : (m : ℕ) → 1 ≤ m → (u : List ℕ) → Within m (singly u)
singly_within m h [] = tt
singly_within m h (b ∷ u) = (omega arith, singly_within m h u)

singly_joined : (u : List ℕ) → joined (singly u) ≡ u
singly_joined [] = refl
singly_joined (b ∷ u) = ap (λ (v : List ℕ). b ∷ v) (singly_joined u)

pub every_stream :
    (L : Limits) → 1 ≤ L.piece → (u : List ℕ) → length u ≤ L.session
    → (ps : List (List ℕ)) × Within L.piece ps × (stream L 0 ps ≡ u)
every_stream L h u l =
    let e = singly_joined u in
    let w = singly_within L.piece h u in
    let k : 0 + length (joined (singly u)) ≤ L.session = rw e (omega arith) in
    (singly u, w, stream_joined L 0 (singly u) w k ∙ e)
