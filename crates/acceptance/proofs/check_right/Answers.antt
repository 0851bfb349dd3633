use native.Mathlib.Omega.{arith}
use mathlib.Core.Bool.{false}
use Rattle.setup.proofs.Layouts.{length_parts}
use Rattle.acceptance.proofs.Acceptance.{check_bytes_lem}
use Rattle.acceptance.proofs.check_right.Goals as goal

pub bounds-s-place : goal.bounds-s-place
bounds-s-place c =
    let place = c in
    omega (arith, place.check_place-place.ensures, length_parts place.args.row false, place.requires)

pub bounds-s-place-2 : goal.bounds-s-place-2
bounds-s-place-2 c =
    let place = c in
    omega (arith, place.check_place-place.ensures, length_parts place.args.row false, place.requires)

pub bounds-s-place-3 : goal.bounds-s-place-3
bounds-s-place-3 c =
    let place = c in
    omega (arith, place.check_place-place.ensures, length_parts place.args.row false, place.requires)

pub bounds-s-place-4 : goal.bounds-s-place-4
bounds-s-place-4 c =
    let place = c in
    omega (arith, place.check_place-place.ensures, length_parts place.args.row false, place.requires)

pub returns : goal.returns
returns c =
    let place = c in
    let a = place.args in
    rw (
      check_bytes_lem a.row a.s.now (omega (arith, length_parts a.row false, place.requires)),
      c.four_bytes_of-sent.ensures,
      c.crc32.ensures,
      place.check_place-place.ensures,
    )
