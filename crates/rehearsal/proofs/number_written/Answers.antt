use Rattle.integers.proofs.Buffers.{to_end}
use Rattle.rehearsal.proofs.Numbers.{number_none, number_minus, number_plain}
use mathlib.Core.Path.{sym, ◌∙◌}
use native.Mathlib.Omega.{arith}
use Rattle.rehearsal.proofs.number_written.Goals as goal

pub returns-then-text-eq0 : goal.returns-then-text-eq0
returns-then-text-eq0 c = sym (number_none c.args.text.now c.if-text-eq0.true)

pub returns-then-text-eq45 : goal.returns-then-text-eq45
returns-then-text-eq45 c =
    let s = c.args.text.now in
    rw (c.digits_written.ensures, c.byte_or_zero-first.ensures, to_end s 1) (sym (number_minus s (omega arith) c.if-text-eq45.true))

pub returns : goal.returns
returns c = c.digits_written-2.ensures ∙ sym (number_plain c.args.text.now (omega arith) c.if-text-eq45.false)
