-- For every stream there is one and only one list of datagrams among bytes at which none begins: those of the scan,
-- if none begins among the bytes that it holds at the end.
-- Assumes nothing.
use Prim.Native.Nat.{ℕ, zero, suc, ◌-◌, ◌≤◌, ◌<◌}
use mathlib.Core.Path.{◌≡◌, refl, sym, ap, ◌∙◌, subst}
use mathlib.Core.Bool.{true}
use mathlib.Core.List.{List, [], ◌∷◌, ◌++◌, append-nil}
use native.Mathlib.Omega.{arith}
use lib.ListN.{length, take, drop, get_or, length-append, length-drop, take-append-drop, get_or-append}
use lib.Seq.{length-take-le, take_at, drop-append-le, drop-cons}
use Rattle.scan.specs.Scan.{Verdict, waits, passes, hands, Scanned, decided, scan_from, scan, First, first, Stable}
use Rattle.scan.specs.Rules.{Rules, verdict, Lawful}
use Rattle.scan.specs.Stream.{Begins, Among, end, other, then, Bare}
use Rattle.scan.proofs.FrontLaws.{acceptable_hands, hands_acceptable, passes_on, passes_enough, front_stable}
use Rattle.scan.proofs.ScanLaws.{scan_hands, passed_in, first_passes}

module _ (R : Rules) (M : Lawful R) where
  pub stable : Stable (verdict R)
  stable = front_stable R.candidate R.acceptable M.shaped

  -- where an acceptable datagram begins, the verdict hands it out
  begins_hands : (u : List ℕ) (B : Begins R.acceptable u) → verdict R u ≡ hands B.size
  begins_hands u B =
      ap (verdict R) (sym (take-append-drop B.size u))
      ∙ acceptable_hands R.candidate R.acceptable M.shaped (take B.size u) (drop B.size u) B.made
      ∙ ap hands (length-take-le B.size u B.there)

  -- and where it hands out, one begins
  hands_begins : (u : List ℕ) (n : ℕ) → verdict R u ≡ hands n → Begins R.acceptable u
  hands_begins u n e =
      let h = hands_acceptable R.candidate R.acceptable u n e in
      record { size = n; some = h.0; there = h.1; made = h.2 }

  -- a byte is passed over only where, whatever follows, none begins
  passes_none : (u v : List ℕ) → verdict R u ≡ passes → Begins R.acceptable (u ++ v) → ⊥
  passes_none u v e B =
      let p : verdict R (u ++ v) ≡ passes = passes_on R.candidate R.acceptable u v e in
      let h : verdict R (u ++ v) ≡ hands B.size = begins_hands (u ++ v) B in
      let z : ◌≡◌ {A = ℕ} 0 1 = cc in omega arith

  -- none begins at a byte that the scan up to its first datagram passes over, whatever follows
  pub none_passed :
      (u v : List ℕ) {f : First} → first (verdict R) u ≡ f → (k : ℕ) → k < passed_in (verdict R) f → k ≤ length u
      → Begins R.acceptable (drop k (u ++ v)) → ⊥
  none_passed u v e k h l B =
      let m : k < passed_in (verdict R) (first (verdict R) u) = subst (λ (f : First). k < passed_in (verdict R) f) (sym e) h in
      passes_none (drop k u) v (first_passes (verdict R) u k m) (subst (Begins R.acceptable) (drop-append-le k u v l) B)

  -- each of them was decided: it begins none, or as many bytes are there as the datagram has that it begins
  pub passed_decided :
      (u v : List ℕ) {f : First} → first (verdict R) u ≡ f → (k : ℕ) → k < passed_in (verdict R) f → k < length u
      → R.candidate (get_or (u ++ v) k 0) ≤ length (u ++ v) - k
  passed_decided u v e k h l =
      let m : k < passed_in (verdict R) (first (verdict R) u) = subst (λ (f : First). k < passed_in (verdict R) f) (sym e) h in
      let w : verdict R (get_or u k 0 ∷ drop (suc k) u) ≡ passes = ap (verdict R) (sym (drop-cons u k 0 l)) ∙ first_passes (verdict R) u k m in
      let n = passes_enough R.candidate R.acceptable (get_or u k 0) (drop (suc k) u) w in
      let t : R.candidate (get_or (u ++ v) k 0) ≡ R.candidate (get_or u k 0) = ap R.candidate (get_or-append u v 0 k l) in
      omega (arith, length-drop (suc k) u, length-append u v)

  bare_among : (u : List ℕ) → Bare R.acceptable u → Among R.acceptable u []
  bare_among [] h = end
  bare_among (b ∷ u) h = other (h 0) (bare_among u (λ (k : ℕ). h (suc k)))

  begins_front : (d u : List ℕ) → R.acceptable d ≡ true → Begins R.acceptable (d ++ u)
  begins_front d u e =
      record {
        size = length d;
        some = M.shaped.some d e;
        there = omega (arith, length-append d u);
        made = ap R.acceptable (take_at d u (length d) refl) ∙ e;
      }

  among_bare : {u : List ℕ} {ds : List (List ℕ)} → Among R.acceptable u ds → Bare R.acceptable u → ds ≡ []
  among_bare end h = refl
  among_bare (other x a) h = among_bare a (λ (k : ℕ). h (suc k))
  among_bare (then {d = d} {u = u} x a) h = absurd (h 0 (begins_front d u x))

  among_skip :
      (k : ℕ) (u : List ℕ) → Bare R.acceptable (scan_from (verdict R) k u).held
      → Among R.acceptable (drop k u) (scan_from (verdict R) k u).datagrams
  unfolding scan_from
  among_skip zero [] h = end
  among_skip (suc k) [] h = end
  among_skip (suc k) (b ∷ u) h = among_skip k u h
  among_skip zero (b ∷ u) h = go (verdict R (b ∷ u)) refl h (λ (k : ℕ) (h : Bare R.acceptable (scan_from (verdict R) k u).held). among_skip k u h)
    where
      go :
          (w : Verdict) → verdict R (b ∷ u) ≡ w
          → Bare R.acceptable (decided (verdict R (b ∷ u)) (b ∷ u) (λ (k : ℕ). scan_from (verdict R) k u)).held
          → ((k : ℕ) → Bare R.acceptable (scan_from (verdict R) k u).held → Among R.acceptable (drop k u) (scan_from (verdict R) k u).datagrams)
          → Among R.acceptable (b ∷ u) (decided (verdict R (b ∷ u)) (b ∷ u) (λ (k : ℕ). scan_from (verdict R) k u)).datagrams
      go waits e h on = rw e (bare_among (b ∷ u) (rw e at h))
      go passes e h on =
          rw e (other (λ (B : Begins R.acceptable (b ∷ u)). passes_none (b ∷ u) [] e (rw (append-nil (b ∷ u)) B)) (on 0 (rw e at h)))
      go (hands zero) e h on = absurd (omega (arith, (hands_acceptable R.candidate R.acceptable (b ∷ u) zero e).0))
      go (hands (suc n)) e h on =
          rw e
          (subst
          (λ (s : List ℕ). Among R.acceptable s (take (suc n) (b ∷ u) ∷ (scan_from (verdict R) n u).datagrams))
          (take-append-drop (suc n) (b ∷ u))
          (then (hands_acceptable R.candidate R.acceptable (b ∷ u) (suc n) e).2 (on n (rw e at h))))

  -- The scan's datagrams stand in the stream, in order, and none begins at a byte that it passes over or holds.
  -- What it holds at the end has no whole datagram in it where all have one length (OneLength.waits-bare); request 2.7 asks it of the stream.
  pub scan_among : (u : List ℕ) → Bare R.acceptable (scan (verdict R) u).held → Among R.acceptable u (scan (verdict R) u).datagrams
  scan_among u h = among_skip 0 u h

  -- Whatever way a stream is datagrams among other bytes, the scan hands out those datagrams
  pub among_scan :
      {u : List ℕ} {ds : List (List ℕ)} → Among R.acceptable u ds → Bare R.acceptable (scan (verdict R) u).held
      → ds ≡ (scan (verdict R) u).datagrams
  unfolding scan_from
  among_scan end h = refl
  among_scan (other {b = b} {u = u} {ds = ds} x a) h =
      go (verdict R (b ∷ u)) refl h (λ (h : Bare R.acceptable (scan (verdict R) u).held). among_scan a h)
    where
      go :
          (w : Verdict) → verdict R (b ∷ u) ≡ w
          → Bare R.acceptable (decided (verdict R (b ∷ u)) (b ∷ u) (λ (k : ℕ). scan_from (verdict R) k u)).held
          → (Bare R.acceptable (scan (verdict R) u).held → ds ≡ (scan (verdict R) u).datagrams)
          → ds ≡ (decided (verdict R (b ∷ u)) (b ∷ u) (λ (k : ℕ). scan_from (verdict R) k u)).datagrams
      go waits e h ih = let bare : Bare R.acceptable (b ∷ u) = rw e at h in rw e (among_bare a (λ (k : ℕ). bare (suc k)))
      go passes e h ih = rw e (ih (rw e at h))
      go (hands n) e h ih = absurd (x (hands_begins (b ∷ u) n e))
  among_scan (then {d = d} {u = u} {ds = ds} x a) h =
      let on = scan_hands (verdict R) stable d u (acceptable_hands R.candidate R.acceptable M.shaped d u x) in
      ap (λ (l : List (List ℕ)). d ∷ l) (among_scan a (subst (λ (r : Scanned). Bare R.acceptable r.held) on h))
      ∙ sym (ap (λ (r : Scanned). r.datagrams) on)
