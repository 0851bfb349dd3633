use mathlib.Core.Path.{sym, ◌∙◌}
use Rattle.std.specs.List.{slice_split}
use Rattle.std.proofs.Common.{rules, tests, eqb}
use Rattle.std.proofs.lemmas.Iterator.Consumers.{YieldsList-from_enumerate}
use Rattle.std.proofs.lemmas.Iterator.Search.{all_from_yields_List}
use Rattle.std.proofs.lemmas.Iterator.Splits.{YieldsList-from_slice_split}
use Rattle.setup_line.proofs.Fields.{fields_parts}
use Rattle.rehearsal.proofs.Numbers.{is_written, written_each}
use Rattle.rehearsal.proofs.all_written.Goals as goal

pub returns : goal.returns
returns c =
    let line = c.args.line.now in
    let e = c.enumerate.ensures in
    all_from_yields_List is_written _ _ _ c.all.ensures.ran
    (YieldsList-from_enumerate {s = c.enumerate.result} (YieldsList-from_slice_split _ (λ b. eqb b 0x2C) line (rw e.source c.split.ensures.rest) (rw e.source c.split.ensures.done) (rw e.source c.split.ensures.closure) (λ x r q k. search (rules, tests))) e.count)
    (λ x b q d. search (rules, tests))
    ∙ rw (fields_parts line) (sym (written_each 0 (slice_split (λ b. eqb b 0x2C) line)))
