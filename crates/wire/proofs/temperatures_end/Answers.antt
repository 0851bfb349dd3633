use native.Mathlib.Omega.{arith}
use Rattle.wire.proofs.RowPlaces.{temperatures_end_lem, ends_low}
use Rattle.wire.proofs.temperatures_end.Goals as goal

pub overflow_add-result : goal.overflow_add-result
overflow_add-result c =
    let a = c.args in
    omega (
      arith,
      c.groups_end.ensures,
      c.if_carried-3.ensures,
      ends_low a.row,
      c.if_carried-2.ensures,
      c.if_carried.ensures,
    )

pub returns : goal.returns
returns c =
    let a = c.args in
    rw (
      temperatures_end_lem a.row,
      c.groups_end.ensures,
      c.if_carried-3.ensures.0,
      c.if_carried-2.ensures.0,
      c.if_carried.ensures.0,
    )
