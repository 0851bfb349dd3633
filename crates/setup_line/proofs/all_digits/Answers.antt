use Rattle.std.proofs.Common.{rules, tests, arith, ◌∙◌}
use Rattle.std.proofs.lemmas.List.{same_lists, places}
use Rattle.std.proofs.lemmas.Iterator.{YieldsList-from_slice}
use Rattle.std.proofs.lemmas.Iterator.Search.{all_from_yields_List}
use Rattle.setup_line.specs.SetupLine.{is_digit}
use Rattle.setup_line.proofs.Digits.{digits_each}
use Rattle.setup_line.proofs.all_digits.Goals as goal

-- what is judged is compared with the text, by its length and then byte by byte, so that an edit that judges a part is refused by what it leaves out
pub returns : goal.returns
returns c =
    let text = c.args.text.now in
    let judged = c.iter.ensures.rest ∙ same_lists _ text (search (rules, places)) (λ k d h. grind (arith, places)) in
    rw (digits_each text) (all_from_yields_List is_digit _ _ _ c.all.ensures.ran (YieldsList-from_slice text judged) (λ x b q k. search (rules, tests)))
