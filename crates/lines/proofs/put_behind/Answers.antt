-- `lines::put_behind` meets its contract: write_shown has room, and refuses nothing. Assumes nothing.
use Prim.Native.Nat.{ℕ, ◌+◌, ◌-◌, ◌≤◌}
use mathlib.Core.Path.{◌≡◌, ap, ◌∙◌}
use mathlib.Core.List.{List, ◌++◌}
use native.Mathlib.Omega.{arith}
use borrow.Rule.Slice.PartMut.{put_mid}
use lib.ListN.{length, take, drop, length-drop}
use Rattle.shown_line.specs.ShownLine.{shown_text}
use Rattle.shown_line.proofs.ShownLaws.{shown_written}
use Rattle.integers.proofs.Buffers.{to_end, put_part}
use Rattle.lines.proofs.put_behind.Goals as goal
use Rattle.lines.proofs.put_behind.Goals.{After-unwrap_or-written}
use Rattle.std.specs.Prelude.{Result, Ok}
use Rattle.std.specs.Result.{result_unwrap_or}
use Rattle.refusals.specs.declared.Refusal.{Refusal}

abbrev line : After-unwrap_or-written → List ℕ
line c = let a = c.args in shown_text a.shown a.values.ordinal.0 a.values.counter a.values.latency a.values.gap a.values.readings a.values.statuses a.values.totals

-- the part of the buffer behind what is written
abbrev part : List ℕ → ℕ → List ℕ
part b used = take (length b - used) (drop used b)

room : (b : List ℕ) (used : ℕ) {n : ℕ} → used + n ≤ length b → n ≤ length (part b used)
room b used h = omega (arith, ap length (to_end b used), length-drop used b)

-- the line is written there
written :
    (c : After-unwrap_or-written)
    → (c.unwrap_or-written.result ≡ length (line c)) × (c.write_shown.new.buffer ≡ line c ++ drop (length (line c)) (part c.args.buffer.now c.args.used))
written c =
    let a = c.args in
    let w =
    shown_written (part a.buffer.now a.used) a.shown a.values.ordinal.0 a.values.counter a.values.latency a.values.gap a.values.readings a.values.statuses a.values.totals c.requires.inside
    (c.write_shown.ensures.answer, c.write_shown.ensures.written)
    (room a.buffer.now a.used c.requires.room)
    in
    (c.unwrap_or-written.ensures ∙ ap (λ (r : Result ℕ Refusal). result_unwrap_or r 0) w.0, w.1)

pub overflow_add-result : goal.overflow_add-result
overflow_add-result c = omega (arith, (written (goal.at.overflow_add-result c).After-unwrap_or-written).0, c.requires.room)

pub returns : goal.returns
returns c =
    let b = c.args.buffer.now in
    let used = c.args.used in
    let k = (goal.at.returns c).After-unwrap_or-written in
    record {
      place = omega (arith, (written k).0);
      bytes = ap (put_mid used (length b - used) b) (written k).1 ∙ put_part b (line k) used c.requires.room;
    }
