use native.Mathlib.Omega.{arith}
use mathlib.Core.Path.{◌≡◌}
use mathlib.Core.Bool.{true, false, not, ◌||◌}
use borrow.Author.Tests.{eq-eqb, ne_eqb}
use lib.Dec.{eqb}
use lib.ListN.{get_or}
use Rattle.setup.specs.Layout.{layout_of, length_in}
use Rattle.setup.proofs.Layouts.{length_range}
use Rattle.acceptance.proofs.Acceptance.{tested}
use Rattle.acceptance.proofs.is_acceptable.Goals as goal

pub returns-then-s-length_of : goal.returns-then-s-length_of
returns-then-s-length_of c =
    let a = c.args in
    let long : c.length_of.result ≡ length_in (layout_of a.row a.terminated) = c.length_of.ensures in
    rw (tested a.identifier a.row a.terminated a.s.now, ← long, ne_eqb _ _ c.if-s-length_of.true)

pub bounds-s-0 : goal.bounds-s-0
bounds-s-0 c =
    let a = c.args in
    omega (arith, c.if-s-length_of.false, c.length_of.ensures, length_range a.row a.terminated)

pub returns-then-s-identifier : goal.returns-then-s-identifier
returns-then-s-identifier c =
    let a = c.args in
    let wrong : (not (eqb (get_or a.s.now 0 0) a.identifier) || not c.ending_right.result) ≡ true = c.if-s-identifier.true in
    rw (
      tested a.identifier a.row a.terminated a.s.now,
      ← c.length_of.ensures,
      eq-eqb _ _ c.if-s-length_of.false,
      ← c.ending_right.ensures,
      wrong,
    )

pub returns : goal.returns
returns c =
    let a = c.args in
    let fine : (not (eqb (get_or a.s.now 0 0) a.identifier) || not c.ending_right.result) ≡ false = c.if-s-identifier.false in
    rw (
      tested a.identifier a.row a.terminated a.s.now,
      ← c.length_of.ensures,
      eq-eqb _ _ c.if-s-length_of.false,
      ← c.ending_right.ensures,
      fine,
    )
    c.check_right.ensures
