use mathlib.Core.Path.{sym, ◌∙◌}
use native.Mathlib.Omega.{arith}
use lib.ListN.{get_or}
use Rattle.setup_line.specs.SetupLine.{digit_value}
use Rattle.setup_line.proofs.Digits.{value_small, decimal_small, decimal_next, decimal_end}
use Rattle.setup_line.proofs.decimal_value.Goals as goal

pub loop-b-preserved : goal.loop-b-preserved
loop-b-preserved c =
    let s = c.args.text.now in
    let l = c.loop-b in
    let next = decimal_next s l.b-index l.number c.loop-b-test.true in
    let small = decimal_small l.b-index l.number (digit_value (get_or s l.b-index 0)) (omega arith) l.invariant.0 (value_small (get_or s l.b-index 0)) in
    rw (c.from.ensures, c.digit_value.ensures) (small.0, sym next ∙ l.invariant.1)

pub returns : goal.returns
returns c = sym (decimal_end c.args.text.now c.loop-b.b-index c.loop-b.number (omega arith)) ∙ c.loop-b.invariant.1
