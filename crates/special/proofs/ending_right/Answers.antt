use mathlib.Core.Path.{sym}
use lib.ListN.{drop}
use Rattle.std.proofs.lemmas.List.{take_rest}
use Rattle.special.proofs.Specials.{no_ending}
use Rattle.special.proofs.ending_right.Goals as goal

pub returns-in_default-4 : goal.returns-in_default-4
returns-in_default-4 c =
    let s = c.args.s.now in
    let end = c.args.end in
    sym (no_ending (drop end s) (rw (take_rest s end) at c.in_default.len_at_least))
