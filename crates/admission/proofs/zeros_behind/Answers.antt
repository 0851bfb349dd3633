-- `admission::zeros_behind` meets its contract. Assumes nothing.
use mathlib.Core.Path.{◌≡◌, ◌∙◌}
use native.Mathlib.Omega.{arith}
use lib.Dec.{eqb}
use lib.ListN.{length, drop, length-drop}
use lib.Seq.{take_all}
use Rattle.std.proofs.Common.{rules, tests}
use Rattle.std.proofs.lemmas.Iterator.{YieldsList-from_slice}
use Rattle.std.proofs.lemmas.Iterator.Search.{all_from_yields_List}
use Rattle.admission.proofs.TenLaws.{zeros_each}
use Rattle.admission.proofs.zeros_behind.Goals as goal

-- what is judged is compared with the rest by its length, so that an edit of where it ends is refused by the length
pub returns : goal.returns
returns c =
    let s = c.args in
    let rest = drop s.place s.bytes in
    let long : length s.bytes ≡ 64 = search rules in
    let judged = c.iter.ensures.rest ∙ take_all _ rest (omega (arith, length-drop s.place s.bytes)) in
    rw (zeros_each rest)
    (all_from_yields_List (λ b. eqb b 0) _ _ _ c.all.ensures.ran (YieldsList-from_slice rest judged) (λ x b q k. search (rules, tests)))
