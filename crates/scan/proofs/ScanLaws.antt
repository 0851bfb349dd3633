-- Laws of the scan over any stable verdict: 01's sentences, the scan of a stream that is cut, how its bytes are parted.
-- Assumes nothing.
use Prim.Native.Nat.{ℕ, zero, suc, pred, ◌+◌, ◌≤◌, ◌<◌}
use mathlib.Core.Path.{◌≡◌, refl, sym, ap, ◌∙◌, subst}
use mathlib.Core.List.{List, [], ◌∷◌, ◌++◌}
use native.Mathlib.Nat.{zero-add, add_assoc}
use native.Mathlib.Numerals.{one-add}
use native.Mathlib.Omega.{arith}
use lib.ListN.{length, take, drop, length-drop}
use lib.Seq.{take-append-le, drop-append-le, length-take-le, take_at, drop_at}
use Rattle.scan.specs.Scan.{Verdict, waits, passes, hands, Scanned, holding, passing, handing, decided, scan_from, scan}
use Rattle.scan.specs.Scan.{First, ends, finds, later, first_by, first, Undecided, Stable}

pub later_zero : (f : First) → later 0 f ≡ f
later_zero (ends n h) = ap (λ (k : ℕ). ends k h) (zero-add n)
later_zero (finds n d r) = ap (λ (k : ℕ). finds k d r) (zero-add n)

pub later_later : (m n : ℕ) (f : First) → later m (later n f) ≡ later (m + n) f
later_later m n (ends k h) = rw add_assoc
later_later m n (finds k d r) = rw add_assoc

passing_zero : (r : Scanned) → passing 0 r ≡ r
passing_zero r = ap (λ (k : ℕ). record { datagrams = r.datagrams; passed = k; held = r.held }) (zero-add r.passed)

passing_passing : (m n : ℕ) (r : Scanned) → passing m (passing n r) ≡ passing (m + n) r
passing_passing m n r = rw add_assoc

-- what two scans give, one after the other
abbrev pub followed : Scanned → Scanned → Scanned
followed f g = record { datagrams = f.datagrams ++ g.datagrams; passed = f.passed + g.passed; held = g.held }

module _ (verdict : List ℕ → Verdict) where
  -- what the scan up to its first datagram finds of more bytes v, of what it found before them
  abbrev pub onward : First → List ℕ → First
  onward (ends n h) v = later n (first verdict (h ++ v))
  onward (finds n d r) v = finds n d (r ++ v)

  -- the whole scan, of what it finds first
  abbrev pub unrolled : First → Scanned
  unrolled (ends n h) = passing n (holding h)
  unrolled (finds n d r) = passing n (handing d (scan verdict r))

  scan_skip : (k : ℕ) (u : List ℕ) → scan_from verdict k u ≡ scan verdict (drop k u)
  unfolding scan_from
  scan_skip zero [] = refl
  scan_skip zero (b ∷ u) = refl
  scan_skip (suc k) [] = refl
  scan_skip (suc k) (b ∷ u) = scan_skip k u

  -- 01, The scan, a sentence each: it waits for more bytes
  pub scan_waits : (u : List ℕ) → Undecided verdict u → scan verdict u ≡ holding u
  unfolding scan_from
  scan_waits [] w = refl
  scan_waits (b ∷ u) w = rw w

  -- it passes over one byte only
  pub scan_passes : (b : ℕ) (u : List ℕ) → verdict (b ∷ u) ≡ passes → scan verdict (b ∷ u) ≡ passing 1 (scan verdict u)
  unfolding scan_from
  scan_passes b u e = rw e

  -- what the scan holds at the end of a stream is undecided
  undecided_from : (k : ℕ) (u : List ℕ) → Undecided verdict (scan_from verdict k u).held
  unfolding scan_from
  undecided_from zero [] = tt
  undecided_from (suc k) [] = tt
  undecided_from (suc k) (b ∷ u) = undecided_from k u
  undecided_from zero (b ∷ u) = go (verdict (b ∷ u)) refl (λ (k : ℕ). undecided_from k u)
    where
      go :
          (w : Verdict) → verdict (b ∷ u) ≡ w → ((k : ℕ) → Undecided verdict (scan_from verdict k u).held)
          → Undecided verdict (decided (verdict (b ∷ u)) (b ∷ u) (λ (k : ℕ). scan_from verdict k u)).held
      go waits e on = rw e e
      go passes e on = rw e (on 0)
      go (hands n) e on = rw e (on (pred n))

  pub scan_undecided : (u : List ℕ) → Undecided verdict (scan verdict u).held
  scan_undecided u = undecided_from 0 u

  pub first_undecided : (u : List ℕ) → Undecided verdict u → first verdict u ≡ ends 0 u
  unfolding first
  first_undecided [] w = refl
  first_undecided (b ∷ u) w = rw w

  module _ (S : Stable verdict) where
    -- with a datagram complete it hands it out and goes on behind it
    pub scan_hands : (d v : List ℕ) → verdict (d ++ v) ≡ hands (length d) → scan verdict (d ++ v) ≡ handing d (scan verdict v)
    unfolding scan_from
    scan_hands [] v e = absurd (let h : 1 ≤ 0 = S.some v 0 e in omega arith)
    scan_hands (b ∷ d) v e =
        rw e
        (ap (λ (x : List ℕ). handing (b ∷ x) (scan_from verdict (length d) (d ++ v))) (take_at d v (length d) refl)
        ∙ ap (handing (b ∷ d)) (scan_skip (length d) (d ++ v) ∙ ap (scan verdict) (drop_at d v (length d) refl)))

    -- The scan of a stream that is cut
    pub first_append : (u v : List ℕ) → first verdict (u ++ v) ≡ onward (first verdict u) v
    unfolding first
    first_append [] v = sym (later_zero (first verdict v))
    first_append (b ∷ u) v = go (verdict (b ∷ u)) refl (first_append u v)
      where
        more : (f : First) → later 1 (onward f v) ≡ onward (later 1 f) v
        more (ends n h) = later_later 1 n (first verdict (h ++ v))
        more (finds n d r) = refl

        go :
            (w : Verdict) → verdict (b ∷ u) ≡ w
            → first verdict (u ++ v) ≡ onward (first verdict u) v
            → first verdict (b ∷ u ++ v) ≡ onward (first_by (verdict (b ∷ u)) (b ∷ u) (first verdict u)) v
        go waits e ih = rw e (sym (later_zero (first verdict (b ∷ u ++ v))))
        go passes e ih = rw (e, S.passes_on (b ∷ u) v e, ih) (more (first verdict u))
        go (hands n) e ih =
            let h : n ≤ length (b ∷ u) = S.there (b ∷ u) n e in
            rw (e, S.hands_on (b ∷ u) v n e, take-append-le n (b ∷ u) v h, drop-append-le n (b ∷ u) v h)

    pub scan_first : (u : List ℕ) → scan verdict u ≡ unrolled (first verdict u)
    unfolding first scan_from
    scan_first [] = sym (passing_zero (holding []))
    scan_first (b ∷ u) = go (verdict (b ∷ u)) refl (scan_first u)
      where
        more : (f : First) → passing 1 (unrolled f) ≡ unrolled (later 1 f)
        more (ends n h) = passing_passing 1 n (holding h)
        more (finds n d r) = passing_passing 1 n (handing d (scan verdict r))

        go :
            (w : Verdict) → verdict (b ∷ u) ≡ w
            → scan verdict u ≡ unrolled (first verdict u)
            → decided (verdict (b ∷ u)) (b ∷ u) (λ (k : ℕ). scan_from verdict k u) ≡ unrolled (first_by (verdict (b ∷ u)) (b ∷ u) (first verdict u))
        go waits e ih = rw e (sym (passing_zero (holding (b ∷ u))))
        go passes e ih = rw (e, ih) (more (first verdict u))
        go (hands zero) e ih = absurd (let h : 1 ≤ 0 = S.some (b ∷ u) zero e in omega arith)
        go (hands (suc n)) e ih = rw (e, scan_skip n u) (sym (passing_zero (handing (take (suc n) (b ∷ u)) (scan verdict (drop n u)))))

    unrolled_later : (n : ℕ) (f : First) → unrolled (later n f) ≡ passing n (unrolled f)
    unrolled_later n (ends m h) = sym (passing_passing n m (holding h))
    unrolled_later n (finds m d r) = sym (passing_passing n m (handing d (scan verdict r)))

    -- the scan goes on from what it holds
    pub scan_ends :
        (u v : List ℕ) {n : ℕ} {h : List ℕ} → first verdict u ≡ ends n h → scan verdict (u ++ v) ≡ passing n (scan verdict (h ++ v))
    scan_ends u v {n} {h} e =
        scan_first (u ++ v)
        ∙ ap unrolled (first_append u v)
        ∙ ap (λ (f : First). unrolled (onward f v)) e
        ∙ unrolled_later n (first verdict (h ++ v))
        ∙ ap (passing n) (sym (scan_first (h ++ v)))

    -- the scan goes on behind its first datagram
    pub scan_finds :
        (u v : List ℕ) {n : ℕ} {d r : List ℕ} → first verdict u ≡ finds n d r
        → scan verdict (u ++ v) ≡ passing n (handing d (scan verdict (r ++ v)))
    scan_finds u v e = scan_first (u ++ v) ∙ ap unrolled (first_append u v) ∙ ap (λ (f : First). unrolled (onward f v)) e

    append_from :
        (k : ℕ) (u v : List ℕ) → k ≤ length u
        → scan_from verdict k (u ++ v) ≡ followed (scan_from verdict k u) (scan verdict ((scan_from verdict k u).held ++ v))
    unfolding scan_from
    append_from zero [] v h = sym (passing_zero (scan verdict v))
    append_from (suc k) [] v h = absurd (omega arith)
    append_from (suc k) (b ∷ u) v h = append_from k u v (omega arith)
    append_from zero (b ∷ u) v h = go (verdict (b ∷ u)) refl (λ (k : ℕ) (l : k ≤ length u). append_from k u v l)
      where
        go :
            (w : Verdict) → verdict (b ∷ u) ≡ w
            → ((k : ℕ) → k ≤ length u → scan_from verdict k (u ++ v) ≡ followed (scan_from verdict k u) (scan verdict ((scan_from verdict k u).held ++ v)))
            → scan verdict (b ∷ u ++ v) ≡ followed (scan verdict (b ∷ u)) (scan verdict ((scan verdict (b ∷ u)).held ++ v))
        go waits e on = rw e (sym (passing_zero (scan verdict (b ∷ u ++ v))))
        go passes e on = rw (e, S.passes_on (b ∷ u) v e) (ap (passing 1) (on 0 (omega arith)) ∙ rw add_assoc)
        go (hands zero) e on = absurd (let h : 1 ≤ 0 = S.some (b ∷ u) zero e in omega arith)
        go (hands (suc n)) e on =
            let h : suc n ≤ length (b ∷ u) = S.there (b ∷ u) (suc n) e in
            rw (e, S.hands_on (b ∷ u) v (suc n) e, take-append-le (suc n) (b ∷ u) v h) (ap (handing (take (suc n) (b ∷ u))) (on n (omega arith)))

    -- The whole scan of a stream that is cut: it goes on from what it holds at the cut
    pub scan_append : (u v : List ℕ) → scan verdict (u ++ v) ≡ followed (scan verdict u) (scan verdict ((scan verdict u).held ++ v))
    scan_append u v = append_from 0 u v (omega arith)

    -- How the bytes u are parted by what the scan finds first in them
    abbrev pub Parted : List ℕ → First → Type 0
    Parted u (ends n h) = (length u ≡ n + length h) × (drop n u ≡ h) × Undecided verdict h
    Parted u (finds n d r) =
        (length u ≡ n + length d + length r)
        × (take (length d) (drop n u) ≡ d)
        × (drop (n + length d) u ≡ r)
        × (verdict (drop n u) ≡ hands (length d))

    pub parted : (u : List ℕ) → Parted u (first verdict u)
    unfolding first
    parted [] = (refl, refl, tt)
    parted (b ∷ u) = go (verdict (b ∷ u)) refl (first verdict u) (parted u)
      where
        more : (f : First) → Parted u f → Parted (b ∷ u) (later 1 f)
        more (ends n h) k = (omega (arith, k.0), rw one-add k.1, k.2)
        more (finds n d r) k =
            let e : 1 + n + length d ≡ suc (n + length d) = omega arith in
            (omega (arith, k.0), rw one-add k.1, rw e k.2, rw one-add k.3)

        go : (w : Verdict) → verdict (b ∷ u) ≡ w → (f : First) → Parted u f → Parted (b ∷ u) (first_by (verdict (b ∷ u)) (b ∷ u) f)
        go waits e f k = rw e (omega arith, refl, e)
        go passes e f k = rw e (more f k)
        go (hands n) e f k =
            let h : n ≤ length (b ∷ u) = S.there (b ∷ u) n e in
            let l : length (take n (b ∷ u)) ≡ n = length-take-le n (b ∷ u) h in
            rw e (
              omega (arith, length-drop n (b ∷ u)),
              ap (λ (m : ℕ). take m (b ∷ u)) l,
              ap (λ (m : ℕ). drop m (b ∷ u)) (zero-add (length (take n (b ∷ u))) ∙ l),
              e ∙ ap hands (sym l),
            )

    pub parted_at : (u : List ℕ) {f : First} → first verdict u ≡ f → Parted u f
    parted_at u e = subst (Parted u) e (parted u)

  -- the bytes that the scan up to its first datagram passes over
  abbrev pub passed_in : First → ℕ
  passed_in (ends n h) = n
  passed_in (finds n d r) = n

  -- at each of them the verdict passes over one byte
  pub first_passes : (u : List ℕ) (k : ℕ) → k < passed_in (first verdict u) → verdict (drop k u) ≡ passes
  unfolding first
  first_passes [] k h = absurd (omega arith)
  first_passes (b ∷ u) k h = go (verdict (b ∷ u)) refl h (λ (j : ℕ). first_passes u j)
    where
      more : (f : First) → passed_in (later 1 f) ≡ suc (passed_in f)
      more (ends n h) = omega arith
      more (finds n d r) = omega arith

      at : (j : ℕ) → verdict (b ∷ u) ≡ passes → j < suc (passed_in (first verdict u))
          → ((i : ℕ) → i < passed_in (first verdict u) → verdict (drop i u) ≡ passes) → verdict (drop j (b ∷ u)) ≡ passes
      at zero e l on = e
      at (suc j) e l on = on j (omega arith)

      go :
          (w : Verdict) → verdict (b ∷ u) ≡ w → k < passed_in (first_by (verdict (b ∷ u)) (b ∷ u) (first verdict u))
          → ((j : ℕ) → j < passed_in (first verdict u) → verdict (drop j u) ≡ passes) → verdict (drop k (b ∷ u)) ≡ passes
      go waits e l on = absurd (let m : k < 0 = rw e at l in omega arith)
      go passes e l on = let m : k < passed_in (later 1 (first verdict u)) = rw e at l in at k e (omega (arith, more (first verdict u))) on
      go (hands n) e l on = absurd (let m : k < 0 = rw e at l in omega arith)
