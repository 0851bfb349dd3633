use native.Mathlib.Omega.{arith}
use Rattle.wire.proofs.RowPlaces.{temperatures_at, ends_low}
use Rattle.wire.proofs.temperature_places.Goals as goal

pub overflow_add-second : goal.overflow_add-second
overflow_add-second c = omega (arith, c.groups_end-first.ensures, ends_low c.args.row)

pub overflow_add-third : goal.overflow_add-third
overflow_add-third c = omega (arith, c.groups_end-first.ensures, c.if_carried.ensures, ends_low c.args.row)

pub returns : goal.returns
returns c =
    let a = c.args in
    rw (
      temperatures_at a.row,
      c.if_carried-2.ensures.0,
      c.if_carried-3.ensures.0,
      c.if_carried-4.ensures.0,
      c.if_carried.ensures.0,
      c.groups_end-first.ensures,
    )
