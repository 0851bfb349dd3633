use Prim.Native.Nat.{ℕ}
use native.Mathlib.Omega.{arith}
use mathlib.Core.List.{List, []}
use mathlib.Core.Path.{◌≡◌, refl, ap, ◌∙◌}
use denote.Ref.{Bor}
use Rattle.std.specs.Prelude.{Option, Some, None}
use Rattle.std.specs.Option.{option_map, unwrap_or}
use Rattle.std.proofs.Common.{rules, tests, eqb}
use Rattle.std.proofs.lemmas.Iterator.Consumers.{nth_from_yields_List}
use Rattle.std.proofs.lemmas.Iterator.Splits.{YieldsList-from_slice_split}
use Rattle.setup_line.specs.SetupLine.{field_at}
use Rattle.setup_line.proofs.Fields.{field_part}
use Rattle.setup_line.proofs.field.Goals as goal

-- what the reference shows, or the other
shown : (o : Option (Bor (List ℕ))) (other : Bor (List ℕ)) → (unwrap_or o other).now ≡ unwrap_or (option_map (λ x. x.now) o) other.now
shown None other = refl
shown (Some x) other = refl

-- the number that `nth` is given is compared with k, so that an edit of it is refused by the number
pub returns : goal.returns
returns c =
    let line = c.args.line.now in
    let part = nth_from_yields_List c.nth.result c.nth.new.self _ c.nth.ensures.ran
    (YieldsList-from_slice_split _ (λ b. eqb b 0x2C) line c.split.ensures.rest c.split.ensures.done c.split.ensures.closure (λ x r q k. search (rules, tests))) in
    ap (λ x. x.now) c.unwrap_or.ensures ∙ shown c.nth.result _ ∙ ap (λ o. unwrap_or o []) part ∙ field_part line _ ∙ ap (field_at line) (omega arith)
