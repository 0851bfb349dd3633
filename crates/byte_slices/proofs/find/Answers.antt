use Rattle.std.proofs.Common.{rules, tests, arith, ◌≡◌, ◌∙◌, ◌+◌, ◌-◌, ap, length, take, drop}
use Rattle.std.proofs.lemmas.Iterator.{YieldsList-from_slice}
use Rattle.std.proofs.lemmas.Iterator.Search.{position_from_yields_List}
use Rattle.std.proofs.lemmas.List.{drop_min}
use Rattle.std.specs.List.{position}
use Rattle.std.specs.Prelude.{nat_eq}
use Rattle.byte_slices.proofs.ByteSlices.{index_found}
use Rattle.byte_slices.proofs.find.Goals as goal
use lib.ListN.{length-drop}
use lib.Seq.{take_all}

pub returns : goal.returns
returns c =
    let a = c.args in
    let behind = drop a.from a.bytes.now in
    let rest : take (length a.bytes.now - c.min.result) (drop c.min.result a.bytes.now) ≡ behind =
    take_all _ _ (omega (arith, length-drop c.min.result a.bytes.now)) ∙ rw c.min.ensures (drop_min a.from a.bytes.now) in
    let place : c.position.result ≡ position (λ x. nat_eq x a.byte) behind =
    position_from_yields_List _ _ _ _ c.position.ensures.ran (YieldsList-from_slice behind (c.iter.ensures.rest ∙ rest)) (λ x b q k. search (rules, tests)) in
    let found = rw (rest, place) at c.unwrap_or.ensures in
    ap (λ n. a.from + n) (found ∙ index_found a.byte behind)
