-- What is decided at the front: where an acceptable datagram begins it is handed out, and the scan does what 01 says.
-- Assumes nothing.
use Prim.Native.Nat.{ℕ, zero, suc, ◌≤◌, ◌<◌}
use mathlib.Core.Path.{◌≡◌, refl, sym, ap, ◌∙◌, subst}
use mathlib.Core.Bool.{Bool, true, false}
use mathlib.Core.List.{List, [], ◌∷◌, ◌++◌, append_assoc}
use native.Mathlib.Omega.{arith}
use borrow.Author.Tests.{leb-true, leb-false, le-leb, lt-leb}
use lib.Dec.{leb}
use lib.ListN.{length, take, drop, length-append, take-append-drop}
use lib.Seq.{length-take-le, take-append-le, take_at}
use Rattle.scan.specs.Scan.{Verdict, waits, passes, hands, holding, passing, handing, scan, Stable}
use Rattle.scan.specs.Front.{front_by, front, Shaped}
use Rattle.scan.proofs.ScanLaws.{scan_waits, scan_passes, scan_hands}

-- ---- a verdict and the tests that it was reached by

data Seen (n : ℕ) (enough right : Bool) : Verdict → Type 0 where
  unknown : n ≡ 0 → Seen n enough right passes
  short : 1 ≤ n → enough ≡ false → Seen n enough right waits
  accepted : 1 ≤ n → enough ≡ true → right ≡ true → Seen n enough right (hands n)
  failed : 1 ≤ n → enough ≡ true → right ≡ false → Seen n enough right passes

seen : (n : ℕ) (enough right : Bool) → Seen n enough right (front_by n enough right)
seen zero enough right = unknown refl
seen (suc n) false right = short (omega arith) refl
seen (suc n) true true = accepted (omega arith) refl refl
seen (suc n) true false = failed (omega arith) refl refl

by_short : (n : ℕ) (right : Bool) → 1 ≤ n → front_by n false right ≡ waits
by_short zero right h = absurd (omega arith)
by_short (suc n) right h = refl

by_accepted : (n : ℕ) → 1 ≤ n → front_by n true true ≡ hands n
by_accepted zero h = absurd (omega arith)
by_accepted (suc n) h = refl

by_failed : (n : ℕ) → front_by n true false ≡ passes
by_failed zero = refl
by_failed (suc n) = refl

module _ (candidate : ℕ → ℕ) (acceptable : List ℕ → Bool) where
  pub front_unknown : (b : ℕ) (u : List ℕ) → candidate b ≡ 0 → front candidate acceptable (b ∷ u) ≡ passes
  unfolding front
  front_unknown b u e = rw e

  module _ (b : ℕ) (u : List ℕ) where
    pub front_short : length (b ∷ u) < candidate b → front candidate acceptable (b ∷ u) ≡ waits
    unfolding front
    front_short l = rw (lt-leb (candidate b) (length (b ∷ u)) l) (by_short (candidate b) (acceptable (take (candidate b) (b ∷ u))) (omega arith))

    pub front_accepted :
        1 ≤ candidate b → candidate b ≤ length (b ∷ u) → acceptable (take (candidate b) (b ∷ u)) ≡ true
        → front candidate acceptable (b ∷ u) ≡ hands (candidate b)
    unfolding front
    front_accepted h l e = rw (le-leb (candidate b) (length (b ∷ u)) l, e) (by_accepted (candidate b) h)

    pub front_failed :
        candidate b ≤ length (b ∷ u) → acceptable (take (candidate b) (b ∷ u)) ≡ false → front candidate acceptable (b ∷ u) ≡ passes
    unfolding front
    front_failed l e = rw (le-leb (candidate b) (length (b ∷ u)) l, e) (by_failed (candidate b))

    abbrev FrontSeen : Verdict → Type 0
    FrontSeen w = Seen (candidate b) (leb (candidate b) (length (b ∷ u))) (acceptable (take (candidate b) (b ∷ u))) w

    front_seen : {w : Verdict} → front candidate acceptable (b ∷ u) ≡ w → FrontSeen w
    unfolding front
    front_seen e =
        subst FrontSeen e (seen (candidate b) (leb (candidate b) (length (b ∷ u))) (acceptable (take (candidate b) (b ∷ u))))

    -- the scan waits with fewer bytes than the first of them asks for
    pub waits_short : front candidate acceptable (b ∷ u) ≡ waits → length (b ∷ u) < candidate b
    waits_short e = go (front_seen e)
      where
        go : FrontSeen waits → length (b ∷ u) < candidate b
        go (short h q) = leb-false _ _ q

    -- a byte is passed over that begins none, or once as many bytes are there as the datagram has that it begins
    pub passes_enough : front candidate acceptable (b ∷ u) ≡ passes → candidate b ≤ length (b ∷ u)
    passes_enough e = go (front_seen e)
      where
        go : FrontSeen passes → candidate b ≤ length (b ∷ u)
        go (unknown z) = omega arith
        go (failed h q r) = leb-true _ _ q

  -- what is handed out is there and acceptable
  pub hands_acceptable :
      (u : List ℕ) (n : ℕ) → front candidate acceptable u ≡ hands n → (1 ≤ n) × (n ≤ length u) × (acceptable (take n u) ≡ true)
  unfolding front
  hands_acceptable [] n e = absurd (let z : ◌≡◌ {A = ℕ} 0 1 = cc in omega arith)
  hands_acceptable (b ∷ u) n e = go (front_seen b u e)
    where
      go : {m : ℕ} → FrontSeen b u (hands m) → (1 ≤ m) × (m ≤ length (b ∷ u)) × (acceptable (take m (b ∷ u)) ≡ true)
      go (accepted p q r) = (p, leb-true _ _ q, r)

  -- more bytes don't alter that one is passed over
  pub passes_on : (u v : List ℕ) → front candidate acceptable u ≡ passes → front candidate acceptable (u ++ v) ≡ passes
  unfolding front
  passes_on [] v e = absurd (let z : ◌≡◌ {A = ℕ} 0 1 = cc in omega arith)
  passes_on (b ∷ u) v e = go (front_seen b u e)
    where
      go : FrontSeen b u passes → front candidate acceptable (b ∷ u ++ v) ≡ passes
      go (unknown p) = front_unknown b (u ++ v) p
      go (failed p q r) =
          let h : candidate b ≤ length (b ∷ u) = leb-true _ _ q in
          front_failed b (u ++ v) (omega (arith, length-append (b ∷ u) v)) (ap acceptable (take-append-le (candidate b) (b ∷ u) v h) ∙ r)

  module _ (D : Shaped candidate acceptable) where
    -- an acceptable datagram at the front is handed out, whatever follows
    pub acceptable_hands : (d v : List ℕ) → acceptable d ≡ true → front candidate acceptable (d ++ v) ≡ hands (length d)
    acceptable_hands [] v a = absurd (omega (arith, D.some [] a))
    acceptable_hands (b ∷ d) v a =
        let l : candidate b ≡ length (b ∷ d) = D.long (b ∷ d) a in
        front_accepted b (d ++ v) (omega (arith, l)) (omega (arith, l, length-append (b ∷ d) v))
        (ap acceptable (take_at (b ∷ d) v (candidate b) (sym l)) ∙ a)
        ∙ ap hands l

    pub front_stable : Stable (front candidate acceptable)
    front_stable =
        record {
          passes_on = passes_on;
          hands_on = on;
          some = λ u n e. (hands_acceptable u n e).0;
          there = λ u n e. (hands_acceptable u n e).1;
        }
      where
        on : (u v : List ℕ) (n : ℕ) → front candidate acceptable u ≡ hands n → front candidate acceptable (u ++ v) ≡ hands n
        on u v n e =
            let h = hands_acceptable u n e in
            let same : u ++ v ≡ take n u ++ (drop n u ++ v) =
            ap (λ (w : List ℕ). w ++ v) (sym (take-append-drop n u)) ∙ append_assoc (take n u) (drop n u) v in
            ap (front candidate acceptable) same
            ∙ acceptable_hands (take n u) (drop n u ++ v) h.2
            ∙ ap hands (length-take-le n u h.1)

    -- 01, The scan, a sentence each: a byte that begins no datagram is passed over
    pub other_byte :
        (b : ℕ) (u : List ℕ) → candidate b ≡ 0
        → scan (front candidate acceptable) (b ∷ u) ≡ passing 1 (scan (front candidate acceptable) u)
    other_byte b u e = scan_passes (front candidate acceptable) b u (front_unknown b u e)

    -- with one there that does, the scan waits for the length
    pub too_few :
        (b : ℕ) (u : List ℕ) → length (b ∷ u) < candidate b → scan (front candidate acceptable) (b ∷ u) ≡ holding (b ∷ u)
    too_few b u l = scan_waits (front candidate acceptable) (b ∷ u) (front_short b u l)

    -- an acceptable datagram is handed out, and the scan goes on behind it
    pub right_ones :
        (d v : List ℕ) → acceptable d ≡ true
        → scan (front candidate acceptable) (d ++ v) ≡ handing d (scan (front candidate acceptable) v)
    right_ones d v a = scan_hands (front candidate acceptable) front_stable d v (acceptable_hands d v a)

    -- otherwise it passes over one byte only
    pub wrong_ones :
        (b : ℕ) (u : List ℕ) → candidate b ≤ length (b ∷ u) → acceptable (take (candidate b) (b ∷ u)) ≡ false
        → scan (front candidate acceptable) (b ∷ u) ≡ passing 1 (scan (front candidate acceptable) u)
    wrong_ones b u l e = scan_passes (front candidate acceptable) b u (front_failed b u l e)
