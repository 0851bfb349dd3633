-- What the place where the scan stops tells of the scan, for an accepted setup.
use Prim.Native.Nat.{ℕ, ◌+◌, ◌-◌, ◌≤◌, ◌<◌}
use mathlib.Core.Option.{none, some}
use mathlib.Core.Path.{◌≡◌, refl, sym, ap, ◌∙◌, subst}
use mathlib.Core.Bool.{true}
use mathlib.Core.List.{List, [], append-nil}
use native.Mathlib.Omega.{arith}
use lib.ListN.{length, take, drop, get_or, length-drop}
use lib.Seq.{length-take-le}
use Rattle.setup.specs.Setup.{ruling_on, length_of}
use Rattle.setup.specs.declared.Setup.{Setup}
use Rattle.scan.specs.Scan.{First, ends, finds, first, Undecided as Open}
use Rattle.scan.specs.Stream.{Begins}
use Rattle.scan.proofs.ScanLaws.{Parted, parted_at, passed_in}
use Rattle.scan.proofs.FrontLaws.{hands_acceptable}
use Rattle.scan.proofs.AmongLaws.{stable, none_passed, passed_decided}
use Rattle.search.specs.declared.Place.{Place}
use Rattle.search.specs.declared.Place.TheVariants.{Complete, Undecided}
use Rattle.search.specs.Search.{candidate_of, is_datagram, rules_of, verdict_of, place_of, passed_before, size_found}
use Rattle.search.proofs.Datagrams.{datagram_length, lawful}
use Rattle.std.specs.Prelude.{Ok}

-- the scan of p stops at a datagram of the setup, which begins at `at` and has that size
pub record IsComplete (u : Setup) (p : List ℕ) (at size : ℕ) : Type 0 where
  pub scan : first (verdict_of u) p ≡ finds at (take size (drop at p)) (drop (at + size) p)
  pub within : at + size ≤ length p
  pub good : is_datagram u (take size (drop at p)) ≡ true

-- the scan of p finds no datagram, and from `at` on p is undecided: fewer bytes than the longest datagram has
pub record IsUndecided (u : Setup) (p : List ℕ) (at : ℕ) : Type 0 where
  pub scan : first (verdict_of u) p ≡ ends at (drop at p)
  pub within : at ≤ length p
  pub short : length p < at + (rules_of u).greatest

-- where all have one length, the size is the setup's
pub complete_length : {u : Setup} {p : List ℕ} {at size : ℕ} → IsComplete u p at size → size ≡ length_of u
complete_length {u} {p} {at} {size} k =
    omega (arith, length-take-le size (drop at p) (omega (arith, k.within, length-drop at p)), datagram_length u (take size (drop at p)) k.good)

module _ (u : Setup) (a : ruling_on u ≡ Ok tt) (p : List ℕ) (at : ℕ) where
  abbrev PartedBy : First → Type 0
  PartedBy f = Parted (verdict_of u) (stable (rules_of u) (lawful u a)) p f

  parted_by : {f : First} → first (verdict_of u) p ≡ f → PartedBy f
  parted_by s = parted_at (verdict_of u) (stable (rules_of u) (lawful u a)) p s

  pub found_complete : {size : ℕ} → place_of (first (verdict_of u) p) ≡ Complete at size → IsComplete u p at size
  found_complete {size} e = by (first (verdict_of u) p) refl e
    where
      by : (f : First) → first (verdict_of u) p ≡ f → place_of f ≡ Complete at size → IsComplete u p at size
      by (ends n h) s e = absurd (let z : ◌≡◌ {A = ℕ} 0 1 = cc in omega arith)
      by (finds n d r) s e =
          let here : n ≡ at = cc in
          let long : length d ≡ size = cc in
          let k : PartedBy (finds n d r) = parted_by s in
          let h = hands_acceptable (candidate_of u) (is_datagram u) (drop n p) (length d) k.3 in
          let same : take size (drop at p) ≡ d = rw (← long, ← here) k.1 in
          let rest : drop (at + size) p ≡ r = rw (← long, ← here) k.2 in
          record {
            scan = s ∙ rw (here, same, rest);
            within = omega (arith, k.0, long, here);
            good = ap (is_datagram u) (same ∙ sym k.1) ∙ h.2;
          }

  pub found_undecided : place_of (first (verdict_of u) p) ≡ Undecided at → IsUndecided u p at
  found_undecided e = by (first (verdict_of u) p) refl e
    where
      by : (f : First) → first (verdict_of u) p ≡ f → place_of f ≡ Undecided at → IsUndecided u p at
      by (finds n d r) s e = absurd (let z : ◌≡◌ {A = ℕ} 0 1 = cc in omega arith)
      by (ends n h) s e =
          let here : n ≡ at = cc in
          let k : PartedBy (ends n h) = parted_by s in
          let rest : drop at p ≡ h = rw (← here) k.1 in
          let holds = (lawful u a).holds in
          record {
            scan = s ∙ rw (here, rest);
            within = omega (arith, k.0, here);
            short = omega (arith, k.0, here, holds.shorter h (holds.undecided h k.2));
          }

-- ---- what the place says

module _ (u : Setup) (a : ruling_on u ≡ Ok tt) (p : List ℕ) where
  abbrev place : Place
  place = place_of (first (verdict_of u) p)

  passed_same : (f : First) → passed_before (place_of f) ≡ passed_in (verdict_of u) f
  passed_same (ends n h) = refl
  passed_same (finds n d r) = refl

  few : (f : First) → first (verdict_of u) p ≡ f → passed_in (verdict_of u) f ≤ length p
  few (ends n h) e = omega (arith, (parted_at (verdict_of u) (stable (rules_of u) (lawful u a)) p e).0)
  few (finds n d r) e = omega (arith, (parted_at (verdict_of u) (stable (rules_of u) (lawful u a)) p e).0)

  pub place_none : (k : ℕ) → k < passed_before place → Begins (is_datagram u) (drop k p) → ⊥
  place_none k l B =
      let f = first (verdict_of u) p in
      let m : k < passed_in (verdict_of u) f = omega (arith, passed_same f) in
      none_passed (rules_of u) (lawful u a) p [] refl k m (omega (arith, few f refl)) (subst (λ (v : List ℕ). Begins (is_datagram u) (drop k v)) (sym (append-nil p)) B)

  pub place_decided : (k : ℕ) → k < passed_before place → candidate_of u (get_or p k 0) ≤ length p - k
  place_decided k l =
      let f = first (verdict_of u) p in
      let m : k < passed_in (verdict_of u) f = omega (arith, passed_same f) in
      subst (λ (v : List ℕ). candidate_of u (get_or v k 0) ≤ length v - k) (append-nil p)
      (passed_decided (rules_of u) (lawful u a) p [] refl k m (omega (arith, few f refl)))

  pub place_complete : {n : ℕ} → size_found place ≡ some n → (passed_before place + n ≤ length p) × (is_datagram u (take n (drop (passed_before place) p)) ≡ true)
  place_complete {n} e = by place refl e
    where
      by : (r : Place) → place ≡ r → size_found r ≡ some n → (passed_before place + n ≤ length p) × (is_datagram u (take n (drop (passed_before place) p)) ≡ true)
      by (Undecided m) q x = absurd (let z : ◌≡◌ {A = ℕ} 0 1 = cc in omega arith)
      by (Complete m size) q x =
          let c = found_complete u a p m q in
          let same : size ≡ n = cc in
          rw (q, ← same) (c.within, c.good)

  pub place_open : size_found place ≡ none → Open (verdict_of u) (drop (passed_before place) p)
  place_open e = by (first (verdict_of u) p) refl e
    where
      by : (f : First) → first (verdict_of u) p ≡ f → size_found (place_of f) ≡ none → Open (verdict_of u) (drop (passed_before place) p)
      by (finds n d r) q x = absurd (let z : ◌≡◌ {A = ℕ} 0 1 = cc in omega arith)
      by (ends n h) q x =
          let k = parted_at (verdict_of u) (stable (rules_of u) (lawful u a)) p q in
          rw q (subst (Open (verdict_of u)) (sym k.1) k.2)
