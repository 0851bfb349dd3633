-- `Receiving::lines_apart` meets its contract: the lines in another buffer, and copied where they fit. Assumes nothing.
use Prim.Native.Nat.{◌≤◌, min}
use mathlib.Core.Path.{◌≡◌, sym, ◌∙◌}
use native.Mathlib.Omega.{arith}
use lib.ListN.{length, take}
use lib.Seq.{length-take-le}
use Rattle.whole_piece.proofs.LongestLines.{room_admitted}
use Rattle.lines.proofs.Answered.{apart_within, apart_refused, apart_copied, apart_never}
use Rattle.byte_slices.proofs.ByteSlices.{copied_whole}
use Rattle.lines.proofs.Receiving.lines_apart.Goals as goal
use Rattle.lines.proofs.Receiving.lines_apart.Goals.{In-Ok}

-- the lines lie in the buffer in which they were made
within_apart : (c : In-Ok) → c.in-Ok.used ≤ length c.all_lines-batch.new.buffer
within_apart c = apart_within c.args.self.now.session c.args.piece.now c.all_lines-batch.ensures c.in-Ok.used c.in-Ok.is

copied_length : (c : In-Ok) → length (take c.in-Ok.used c.all_lines-batch.new.buffer) ≡ c.in-Ok.used
copied_length c = length-take-le c.in-Ok.used c.all_lines-batch.new.buffer (within_apart c)

pub all_lines-batch-requires : goal.all_lines-batch-requires
all_lines-batch-requires c =
    let a = c.args in
    let e = c.requires in
    record { admitted = e; enough = room_admitted a.self.now.session (length a.piece.now) e }

pub returns-then-buffer-used : goal.returns-then-buffer-used
returns-then-buffer-used c =
    let a = c.args in
    let w =
    apart_refused a.self.now.session a.piece.now c.all_lines-batch.ensures c.in-Ok.used c.in-Ok.is c.requires a.buffer.now
    c.if-buffer-used.true c.refuse.ensures
    in
    record { answer = w.0; written = w.1 }

pub slice_bounds-apart-end : goal.slice_bounds-apart-end
slice_bounds-apart-end c = within_apart (goal.at.slice_bounds-apart-end c).In-Ok

pub slice_bounds-copy-end : goal.slice_bounds-copy-end
slice_bounds-copy-end c = sym (copied_length (goal.at.slice_bounds-copy-end c).In-Ok)

pub returns-else-buffer-used : goal.returns-else-buffer-used
returns-else-buffer-used c =
    let a = c.args in
    let made = take c.in-Ok.used c.all_lines-batch.new.buffer in
    let room : length made ≤ length a.buffer.now = omega (arith, copied_length (goal.at.returns-else-buffer-used c).In-Ok, c.if-buffer-used.false) in
    let whole : min (length made) (length a.buffer.now) ≡ length made = omega arith in
    let w =
    apart_copied a.self.now.session a.piece.now c.all_lines-batch.ensures c.in-Ok.used c.in-Ok.is c.requires a.buffer.now
    c.if-buffer-used.false (c.copy.ensures.count ∙ whole) (c.copy.ensures.bytes ∙ copied_whole made a.buffer.now room)
    in
    record { answer = w.0; written = w.1 }

pub returns-in-Err : goal.returns-in-Err
returns-in-Err c =
    let a = c.args in
    absurd (apart_never a.self.now.session a.piece.now c.all_lines-batch.ensures 0 c.in-Err.is)
