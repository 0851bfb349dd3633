-- The scan of held bytes h and a piece p, of what it finds in h and the first m bytes of p.
use Prim.Native.Nat.{ℕ, ◌+◌, ◌-◌, ◌≤◌}
use mathlib.Core.Path.{◌≡◌, sym, ap, ◌∙◌}
use mathlib.Core.List.{List, ◌++◌, append_assoc}
use native.Mathlib.Omega.{arith}
use lib.ListN.{length, take, drop, length-append, length-drop, take-append-drop}
use lib.Seq.{drop-append-add, drop-append-le, length-take-le}
use Rattle.setup.specs.Setup.{ruling_on}
use Rattle.setup.specs.declared.Setup.{Setup}
use Rattle.scan.specs.Scan.{First, finds, later, first}
use Rattle.scan.proofs.AmongLaws.{stable}
use Rattle.scan.proofs.ScanLaws.{first_append, onward}
use Rattle.search.specs.Search.{rules_of, verdict_of}
use Rattle.search.proofs.Datagrams.{lawful}
use Rattle.search.proofs.Places.{IsComplete, IsUndecided}
use Rattle.std.specs.Prelude.{Ok}

module _ (u : Setup) (a : ruling_on u ≡ Ok tt) (h p : List ℕ) (m : ℕ) (at : ℕ) where
  again : (h ++ take m p) ++ drop m p ≡ h ++ p
  again = append_assoc h (take m p) (drop m p) ∙ ap (λ (y : List ℕ). h ++ y) (take-append-drop m p)

  onward_from : first (verdict_of u) (h ++ p) ≡ onward (verdict_of u) (first (verdict_of u) (h ++ take m p)) (drop m p)
  onward_from = ap (first (verdict_of u)) (sym again) ∙ first_append (verdict_of u) (stable (rules_of u) (lawful u a)) (h ++ take m p) (drop m p)

  -- a datagram found there is the first in h and p
  pub complete_joined :
      {size : ℕ} → IsComplete u (h ++ take m p) at size
      → first (verdict_of u) (h ++ p)
      ≡ finds at (take size (drop at (h ++ take m p))) (drop (at + size) (h ++ take m p) ++ drop m p)
  complete_joined w = onward_from ∙ ap (λ (f : First). onward (verdict_of u) f (drop m p)) w.scan

  -- with so many bytes of p taken
  pub complete_taken :
      {size : ℕ} → IsComplete u (h ++ take m p) at size → length h ≤ at + size → m ≤ length p
      → length p - length (drop (at + size) (h ++ take m p) ++ drop m p) ≡ at + size - length h
  complete_taken {size} w l k =
      omega (
        arith,
        w.within,
        length-append (drop (at + size) (h ++ take m p)) (drop m p),
        length-drop (at + size) (h ++ take m p),
        length-append h (take m p),
        length-take-le m p k,
        length-drop m p,
      )

  -- where none is found and all of h is passed over, the scan goes on in p alone
  pub undecided_joined :
      IsUndecided u (h ++ take m p) at → length h ≤ at → m ≤ length p
      → first (verdict_of u) (h ++ p) ≡ later at (first (verdict_of u) (drop (at - length h) p))
  undecided_joined w l k =
      let e : at ≡ length h + (at - length h) = omega arith in
      let rest : drop at (h ++ take m p) ++ drop m p ≡ drop (at - length h) p =
      ap (λ (n : ℕ). drop n (h ++ take m p) ++ drop m p) e
      ∙ ap (λ (y : List ℕ). y ++ drop m p) (drop-append-add h (take m p) (at - length h))
      ∙ sym
      (drop-append-le (at - length h) (take m p) (drop m p)
      (omega (arith, w.within, length-append h (take m p))))
      ∙ ap (drop (at - length h)) (take-append-drop m p)
      in
      onward_from
      ∙ ap (λ (f : First). onward (verdict_of u) f (drop m p)) w.scan
      ∙ ap (λ (y : List ℕ). later at (first (verdict_of u) y)) rest
