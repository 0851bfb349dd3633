use Prim.Native.Nat.{◌+◌}
use mathlib.Core.Path.{◌≡◌, sym}
use mathlib.Core.Bool.{true, ◌&&◌}
use lib.Dec.{eqb}
use lib.ListN.{get_or}
use Rattle.setup.specs.Layout.{layout_of}
use Rattle.acceptance.specs.Acceptable.{ending_right}
use Rattle.acceptance.proofs.Acceptance.{ending_bytes_lem, ending_none}
use Rattle.acceptance.proofs.ending_right.Goals as goal

pub returns-then-terminated : goal.returns-then-terminated
returns-then-terminated c =
    let a = c.args in
    let with-ending = c.if-terminated.true in
    let at = c.length_of-place.result in
    let right : (eqb (get_or a.s.now at 0) 0x0D && eqb (get_or a.s.now (at + 1) 0) 0x0A) ≡ ending_right (layout_of a.row true) a.s.now =
    rw c.length_of-place.ensures
    (sym (ending_bytes_lem a.row a.s.now (rw with-ending at c.requires))) in
    rw with-ending right

pub returns-else-terminated : goal.returns-else-terminated
returns-else-terminated c =
    let a = c.args in
    rw c.if-terminated.false (sym (ending_none a.row a.s.now (rw c.if-terminated.false at c.requires)))
