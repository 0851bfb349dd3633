use mathlib.Core.Path.{◌≡◌, ap, ◌∙◌}
use mathlib.Core.List.{List, ◌++◌}
use Prim.Native.Nat.{ℕ, min}
use native.Mathlib.Omega.{arith}
use lib.ListN.{length, drop}
use lib.Seq.{take-length}
use Rattle.shown_line.proofs.Answers.{room_short, room_enough}
use Rattle.byte_slices.proofs.ByteSlices.{copied_whole}
use Rattle.text_line.proofs.copy_line.Goals as goal
use Rattle.std.specs.Prelude.{Ok}

pub returns-then-buffer-line-clause-answer : goal.returns-then-buffer-line-clause-answer
returns-then-buffer-line-clause-answer c = (room_short c.args.buffer.now c.args.line.now c.if-buffer-line.true).0

pub returns-then-buffer-line-clause-written : goal.returns-then-buffer-line-clause-written
returns-then-buffer-line-clause-written c = (room_short c.args.buffer.now c.args.line.now c.if-buffer-line.true).1

pub returns-clause-answer : goal.returns-clause-answer
returns-clause-answer c =
    let whole : min (length c.args.line.now) (length c.args.buffer.now) ≡ length c.args.line.now = omega arith in
    ap Ok (c.copy.ensures.count ∙ whole) ∙ (room_enough c.args.buffer.now c.args.line.now c.if-buffer-line.false).0

pub returns-clause-written : goal.returns-clause-written
returns-clause-written c =
    let b = c.args.buffer.now in
    let line = c.args.line.now in
    c.copy.ensures.bytes ∙ copied_whole line b c.if-buffer-line.false ∙ ap (λ (l : List ℕ). l ++ drop (length line) b) (take-length line) ∙ (room_enough b line c.if-buffer-line.false).1
