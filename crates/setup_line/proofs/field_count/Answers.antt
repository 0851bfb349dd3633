use mathlib.Core.Path.{◌≡◌}
use Rattle.std.proofs.Common.{rules, arith, eqb}
use Rattle.std.specs.List.{count_by}
use Rattle.std.proofs.iter.runs.Made.{chains}
use Rattle.setup_line.proofs.Fields.{count_parts}
use Rattle.setup_line.proofs.field_count.Goals as goal

pub returns : goal.returns
returns c =
    let commas : c.count.result ≡ count_by (λ b. eqb b 0x2C) c.args.line.now = search (rules, chains) in
    omega (arith, count_parts c.args.line.now)
