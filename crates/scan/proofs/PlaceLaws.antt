-- The scan up to its first datagram at a place of a list: what a loop over an index asks for.
-- Assumes nothing.
use Prim.Native.Nat.{ℕ, ◌+◌, ◌-◌, ◌≤◌, ◌<◌}
use mathlib.Core.Path.{◌≡◌, sym, ap, ◌∙◌}
use mathlib.Core.Bool.{true, false}
use mathlib.Core.List.{List, ◌∷◌}
use native.Mathlib.Numerals.{add-one}
use native.Mathlib.Omega.{arith}
use lib.ListN.{length, take, drop, get_or, length-drop}
use lib.Seq.{drop-cons, drop-drop}
use Rattle.scan.specs.Scan.{Verdict, hands, first_by, ends, finds, later, first}
use Rattle.scan.specs.Rules.{Rules, verdict}
use Rattle.scan.proofs.FrontLaws.{front_unknown, front_short, front_accepted, front_failed}

-- n: the length of a datagram that begins with the byte at i
module _ (R : Rules) (p : List ℕ) (i : ℕ) (h : i < length p) {n : ℕ} (told : R.candidate (get_or p i 0) ≡ n) where
  -- the byte there and what follows it
  parts : drop i p ≡ get_or p i 0 ∷ drop (i + 1) p
  parts = rw add-one (drop-cons p i 0 h)

  left : length (get_or p i 0 ∷ drop (i + 1) p) ≡ length p - i
  left = sym (ap length parts) ∙ length-drop i p

  same : take (R.candidate (get_or p i 0)) (get_or p i 0 ∷ drop (i + 1) p) ≡ take n (drop i p)
  same = ap (λ (k : ℕ). take k (get_or p i 0 ∷ drop (i + 1) p)) told ∙ ap (take n) (sym parts)

  decided_there :
      {v : Verdict} → verdict R (get_or p i 0 ∷ drop (i + 1) p) ≡ v
      → first (verdict R) (drop i p) ≡ first_by v (drop i p) (first (verdict R) (drop (i + 1) p))
  unfolding first
  decided_there e = ap (first (verdict R)) parts ∙ rw (e, parts)

  pub passes_other : n ≡ 0 → first (verdict R) (drop i p) ≡ later 1 (first (verdict R) (drop (i + 1) p))
  passes_other e = decided_there (front_unknown R.candidate R.acceptable (get_or p i 0) (drop (i + 1) p) (told ∙ e))

  pub passes_wrong :
      n ≤ length p - i → R.acceptable (take n (drop i p)) ≡ false
      → first (verdict R) (drop i p) ≡ later 1 (first (verdict R) (drop (i + 1) p))
  passes_wrong l r =
      decided_there
      (front_failed R.candidate R.acceptable (get_or p i 0) (drop (i + 1) p) (omega (arith, left, told)) (ap R.acceptable same ∙ r))

  pub holds_short : length p - i < n → first (verdict R) (drop i p) ≡ ends 0 (drop i p)
  holds_short l =
      decided_there (front_short R.candidate R.acceptable (get_or p i 0) (drop (i + 1) p) (omega (arith, left, told)))

  pub hands_right :
      1 ≤ n → n ≤ length p - i → R.acceptable (take n (drop i p)) ≡ true
      → first (verdict R) (drop i p) ≡ finds 0 (take n (drop i p)) (drop (i + n) p)
  hands_right some l r =
      decided_there
      (front_accepted R.candidate R.acceptable (get_or p i 0) (drop (i + 1) p) (omega (arith, told)) (omega (arith, left, told))
      (ap R.acceptable same ∙ r)
      ∙ ap hands told)
      ∙ ap (finds 0 (take n (drop i p))) (drop-drop n i p)
