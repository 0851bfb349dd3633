use Rattle.rehearsal.proofs.Numbers.{capped_turn, capped_end}
use mathlib.Core.Path.{◌∙◌}
use native.Mathlib.Omega.{arith}
use Rattle.rehearsal.proofs.magnitude_written.Goals as goal

pub loop-b-preserved : goal.loop-b-preserved
loop-b-preserved c =
    let l = c.loop-b in
    (omega (arith, c.min-number.ensures), capped_turn c.args.text.now l.b-index l.number c.loop-b-test.true (c.from.ensures ∙ c.digit_value.ensures) c.min-number.ensures ∙ l.invariant.1)

pub returns : goal.returns
returns c = let l = c.loop-b in capped_end c.args.text.now l.b-index l.number (omega arith) l.invariant.0 ∙ l.invariant.1
