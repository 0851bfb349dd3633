-- `gaps::elapsed` meets its contract. Assumes nothing.
use Prim.Native.Nat.{◌+◌, ◌-◌, ◌%◌}
use mathlib.Core.Bool.{Bool, cond}
use mathlib.Core.Path.{refl, sym, ap, ◌∙◌}
use native.Mathlib.Omega.{arith}
use borrow.Author.Tests.{eq-eqb, ne_eqb}
use Rattle.gaps.specs.Gaps.{samples}
use Rattle.gaps.proofs.Gaps.{elapsed_code}
use Rattle.gaps.proofs.elapsed.Goals as goal

pub returns-then-d-eq0 : goal.returns-then-d-eq0
returns-then-d-eq0 c =
    let s = c.args in
    let d = (s.counter + 256 - s.previous) % 256 in
    ap (λ (b : Bool). samples (cond b 256 d)) (sym (eq-eqb d 0 c.if-d-eq0.true)) ∙ elapsed_code s.previous s.counter d (omega arith) refl

pub returns : goal.returns
returns c =
    let s = c.args in
    let d = (s.counter + 256 - s.previous) % 256 in
    ap (λ (b : Bool). samples (cond b 256 d)) (sym (ne_eqb d 0 c.if-d-eq0.false)) ∙ elapsed_code s.previous s.counter d (omega arith) refl
