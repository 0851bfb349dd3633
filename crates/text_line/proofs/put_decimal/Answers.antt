use mathlib.Core.Path.{◌≡◌, sym, ap, ◌∙◌}
use mathlib.Core.List.{◌∷◌}
use native.Mathlib.Omega.{arith}
use lib.IntN.{nat_abs}
use lib.ListN.{length, length-set}
use mir.Syntax.{w64}
use Rattle.integers.proofs.Parts.{parts_apart}
use Rattle.integers.proofs.Signed.{passed, below_taken, below_left}
use Rattle.shown_line.specs.Decimal.{digits, decimal}
use Rattle.shown_line.proofs.Digits.{decimal_negative, decimal_positive}
use Rattle.integers.proofs.Buffers.{put_byte, then_put}
use Rattle.text_line.proofs.put_decimal.Goals as goal
use Rattle.text_line.proofs.put_decimal.Goals.{Else-z-lt0, Then-z-lt0}

-- the text, in each branch, by the size
text_below : (c : Then-z-lt0) → decimal c.before.before.before.args.z ≡ 0x2D ∷ digits c.before.magnitude-size.result
text_below c =
    let s = c.before.before.before in
    let l = below_taken w64 s.args.z _ s.ranges.z c.if-z-lt0.true in
    decimal_negative s.args.z (omega arith) ∙ ap (λ n. 0x2D ∷ digits n) (sym (passed w64 nat_abs s.args.z s.ranges.z c.before.magnitude-size.ensures))

text_above : (c : Else-z-lt0) → decimal c.before.before.before.args.z ≡ digits c.before.magnitude-size.result
text_above c =
    let s = c.before.before.before in
    let q = parts_apart s.args.z in
    let l = below_left w64 s.args.z _ s.ranges.z c.if-z-lt0.false in
    decimal_positive s.args.z (omega arith) ∙ ap digits (sym (passed w64 nat_abs s.args.z s.ranges.z c.before.magnitude-size.ensures))

pub bounds-buffer-at : goal.bounds-buffer-at
bounds-buffer-at c = omega (arith, ap length (text_below (goal.at.bounds-buffer-at c).Then-z-lt0), c.requires)

pub put_digits-requires : goal.put_digits-requires
put_digits-requires c = simp length-set (omega (arith, ap length (text_below (goal.at.put_digits-requires c).Then-z-lt0), c.requires))

pub returns-then-z-lt0 : goal.returns-then-z-lt0
returns-then-z-lt0 c = rw (text_below (goal.at.returns-then-z-lt0 c).Then-z-lt0) (then_put put_byte c.put_digits.ensures)

pub put_digits-requires-2 : goal.put_digits-requires-2
put_digits-requires-2 c = rw (text_above (goal.at.put_digits-requires-2 c).Else-z-lt0) at c.requires

pub returns : goal.returns
returns c = rw (text_above (goal.at.returns c).Else-z-lt0) c.put_digits-2.ensures
