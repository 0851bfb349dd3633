use mathlib.Core.Path.{◌≡◌, sym, ap, ◌∙◌}
use mathlib.Core.Bool.{Bool, not}
use native.Mathlib.Omega.{arith}
use lib.IntN.{ℤ, nat_abs}
use mir.Syntax.{w64}
use mir.Val.{SFits, of_z, to_z}
use mir.ValLaws.{to_z-of_z}
use Rattle.integers.specs.Ranges.{within}
use Rattle.integers.proofs.Signed.{passed}
use Rattle.motion.specs.Totals.{greatest_total}
use Rattle.printed_value.specs.PrintedValue.{beyond}
use Rattle.printed_value.proofs.Answers.{in_range_back, within_limit_back, places_refused, number_refused}
use Rattle.printing.proofs.TextParts.{value_parts, value_written}
use Rattle.printing.proofs.print_value.Goals as goal

pub returns-then-out_of_range : goal.returns-then-out_of_range
returns-then-out_of_range c =
    let a = c.args in
    let w = places_refused a.buffer.now a.number a.shift a.places c.if-out_of_range.true in
    record { answer = w.0; written = w.1 }

-- 18's test of the number
limit : (z : ℤ) {r : Bool} → SFits w64 z → r ≡ within greatest_total (to_z w64 (of_z w64 z)) → not r ≡ beyond z
limit z h e = ap not (passed w64 (within greatest_total) z h e)

pub returns-then-beyond : goal.returns-then-beyond
returns-then-beyond c =
    let a = c.args in
    let w = number_refused a.buffer.now a.number a.shift a.places c.if-out_of_range.false (sym (limit a.number c.ranges.number c.fits_total-beyond.ensures) ∙ ap not c.if-beyond.true) in
    record { answer = w.0; written = w.1 }

pub round_size-rounded-requires : goal.round_size-rounded-requires
round_size-rounded-requires c =
    let a = c.args in
    let r = in_range_back a.shift a.places c.if-out_of_range.false in
    (omega (arith, passed w64 nat_abs a.number c.ranges.number c.magnitude.ensures, within_limit_back a.number (sym (limit a.number c.ranges.number c.fits_total-beyond.ensures) ∙ ap not c.if-beyond.false)), r.1, r.0)

pub returns : goal.returns
returns c =
    let a = c.args in
    let e = rw (passed w64 nat_abs a.number c.ranges.number c.magnitude.ensures) at c.round_size-rounded.ensures in
    let p = c.print_rounded.ensures in
    let f1 = rw (to_z-of_z w64 a.number c.ranges.number) at p.answer in
    let f2 = rw (to_z-of_z w64 a.number c.ranges.number) at p.written in
    let w = value_written a.number a.shift a.places a.buffer.now c.if-out_of_range.false (sym (limit a.number c.ranges.number c.fits_total-beyond.ensures) ∙ ap not c.if-beyond.false) _
    (value_parts a.number a.shift a.places e.0 e.1) (f1, f2) in
    record { answer = w.0; written = w.1 }
