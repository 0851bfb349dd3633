-- `doubt::sum_with` meets its contract. Assumes nothing.
use Prim.Native.Nat.{◌+◌, min}
use mathlib.Core.Path.{◌≡◌, ap}
use native.Mathlib.Omega.{arith}
use Rattle.gaps.specs.Gaps.{samples}
use Rattle.doubt.specs.Doubt.{sum_with}
use Rattle.doubt.proofs.sum_with.Goals as goal

pub returns-then-more-lt-GREATEST_SUM : goal.returns-then-more-lt-GREATEST_SUM
unfolding sum_with
returns-then-more-lt-GREATEST_SUM c =
    let a = c.args in
    let e : a.sum.0 + a.d.0 ≡ min (a.sum.0 + a.d.0) 65535 = omega (arith, c.if-more-lt-GREATEST_SUM.true) in
    ap samples e

pub returns : goal.returns
unfolding sum_with
returns c =
    let a = c.args in
    let e : 65535 ≡ min (a.sum.0 + a.d.0) 65535 = omega (arith, c.if-more-lt-GREATEST_SUM.false) in
    ap samples e
