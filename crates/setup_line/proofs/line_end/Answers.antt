use mathlib.Core.Path.{ap, ◌∙◌}
use Rattle.std.proofs.Common.{rules, tests, eqb, length}
use Rattle.std.specs.Option.{unwrap_or}
use Rattle.std.proofs.lemmas.Iterator.{YieldsList-from_slice}
use Rattle.std.proofs.lemmas.Iterator.Search.{position_from_yields_List}
use Rattle.setup_line.proofs.LineEnds.{end_found}
use Rattle.setup_line.proofs.line_end.Goals as goal

pub returns : goal.returns
returns c =
    let s = c.args.bytes.now in
    let place = position_from_yields_List (λ b. eqb b 0x0A) _ _ c.position.result c.position.ensures.ran (YieldsList-from_slice s (cc)) (λ x b q k. search (rules, tests)) in
    c.unwrap_or.ensures ∙ ap (λ o. unwrap_or o (length s)) place ∙ end_found s
