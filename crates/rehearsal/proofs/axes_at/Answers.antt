use Prim.Native.Nat.{◌+◌}
use Rattle.integers.proofs.Signed.{kept}
use Rattle.rehearsal.specs.RehearsalLine.{value_at}
use mathlib.Core.Path.{◌≡◌}
use mir.Syntax.{w32}
use mir.Val.{to_z, of_z}
use Rattle.rehearsal.proofs.axes_at.Goals as goal

pub returns : goal.returns
returns c =
    let line = c.args.line.now in
    let k = c.args.k in
    let x : to_z w32 (of_z w32 c.value_at.result) ≡ value_at line k = kept w32 c.value_at.type_inv c.value_at.ensures in
    let y : to_z w32 (of_z w32 c.value_at-2.result) ≡ value_at line (k + 1) = kept w32 c.value_at-2.type_inv c.value_at-2.ensures in
    let z : to_z w32 (of_z w32 c.value_at-3.result) ≡ value_at line (k + 2) = kept w32 c.value_at-3.type_inv c.value_at-3.ensures in
    rw (x, y, z)
