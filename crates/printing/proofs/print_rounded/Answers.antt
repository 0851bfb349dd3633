use mathlib.Core.Path.{◌≡◌}
use mathlib.Core.List.{List}
use Prim.Native.Nat.{ℕ, ◌+◌, ◌≤◌}
use native.Mathlib.Omega.{arith}
use lib.ListN.{length}
use Rattle.shown_line.proofs.Digits.{digits_at_most}
use Rattle.printed_value.proofs.ValueLaws.{behind_length, behind_at_most, minus_at_most}
use Rattle.printing.specs.Writing.{text_of}
use Rattle.printing.proofs.TextParts.{text_length, room_short, room_put}
use Rattle.printing.proofs.print_rounded.Goals as goal
use Rattle.printing.proofs.print_rounded.Goals.{Start, After-digit_count-count, After-fraction_length}

abbrev text : Start → List ℕ
text s = text_of s.args.minus s.args.rounded.whole s.args.rounded.fraction s.args.places

-- what is measured is the text's length
long : (c : After-fraction_length) → c.before.minus_length.result + c.before.before.digit_count-count.result + c.fraction_length.result ≡ length (text c.before.before.before.before.before)
long c =
    let s = c.before.before.before.before.before in
    omega (
      arith,
      text_length s.args.minus s.args.rounded.whole s.args.rounded.fraction s.args.places,
      c.before.minus_length.ensures,
      c.before.before.digit_count-count.ensures,
      c.fraction_length.ensures,
    )

-- none of the three is large
few : (c : After-digit_count-count) → c.digit_count-count.result ≤ 20
few c = omega (arith, c.digit_count-count.ensures, digits_at_most 19 c.before.before.args.rounded.whole (omega arith))

pub overflow_add-minus_length : goal.overflow_add-minus_length
overflow_add-minus_length c = omega (arith, minus_at_most c.args.minus, c.minus_length.ensures, few (goal.at.overflow_add-minus_length c).After-digit_count-count)

pub overflow_add-minus_length-2 : goal.overflow_add-minus_length-2
overflow_add-minus_length-2 c =
    omega (arith, minus_at_most c.args.minus, c.minus_length.ensures, few (goal.at.overflow_add-minus_length-2 c).After-digit_count-count, c.fraction_length.ensures, behind_length c.args.places 0, behind_at_most c.args.places 0)

pub returns-then-buffer-minus_length : goal.returns-then-buffer-minus_length
returns-then-buffer-minus_length c =
    let s = (goal.at.returns-then-buffer-minus_length c).Start in
    let w = room_short s.args.buffer.now (text s) (omega (arith, long (goal.at.returns-then-buffer-minus_length c).After-fraction_length, c.if-buffer-minus_length.true)) in
    record { answer = w.0; written = w.1 }

pub put_text-requires : goal.put_text-requires
put_text-requires c = (c.digit_count-count.ensures, omega (arith, long (goal.at.put_text-requires c).After-fraction_length, c.if-buffer-minus_length.false))

pub returns : goal.returns
returns c =
    let s = (goal.at.returns c).Start in
    let w = room_put s.args.buffer.now (text s) (omega (arith, long (goal.at.returns c).After-fraction_length, c.if-buffer-minus_length.false)) c.put_text.ensures in
    record { answer = w.0; written = w.1 }
