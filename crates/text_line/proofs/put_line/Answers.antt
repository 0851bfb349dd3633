use mathlib.Core.Path.{◌≡◌, ap}
use mathlib.Core.List.{List, [], ◌∷◌, ◌++◌}
use Prim.Native.Nat.{ℕ, ◌+◌, ◌≤◌}
use native.Mathlib.Nat.{zero-add}
use native.Mathlib.Omega.{arith}
use lib.ListN.{length}
use Rattle.shown_line.specs.Putting.{behind, heading_text}
use Rattle.shown_line.specs.ShownLine.{groups_fields, shown_text}
use Rattle.shown_line.proofs.Fields.{line_text_lem}
use Rattle.integers.proofs.Buffers.{put_byte, then_put, room_first, room_then}
use Rattle.text_line.proofs.put_line.Goals as goal
use Rattle.text_line.proofs.put_line.Goals.{After-put_groups-end, After-put_heading-at, Start}

-- the line's heading, and what follows it
abbrev heading : Start → List ℕ
heading s = heading_text s.args.values.ordinal.0 s.args.values.counter s.args.values.latency s.args.values.gap

abbrev groups : Start → List ℕ
groups s = behind (groups_fields s.args.shown.carried s.args.shown.kept s.args.values.readings s.args.values.statuses s.args.values.totals)

abbrev rest : Start → List ℕ
rest s = groups s ++ 0x0A ∷ []

text : (s : Start)
    → shown_text s.args.shown s.args.values.ordinal.0 s.args.values.counter s.args.values.latency s.args.values.gap s.args.values.readings s.args.values.statuses s.args.values.totals
    ≡ heading s ++ rest s
text s =
    line_text_lem s.args.shown s.args.values.ordinal.0 s.args.values.counter s.args.values.latency s.args.values.gap s.args.values.readings s.args.values.statuses s.args.values.totals

room_all : (s : Start) → 0 + length (heading s ++ rest s) ≤ length s.args.buffer.now
room_all s = omega (arith, ap length (text s), s.requires)

room_rest : (c : After-put_heading-at) → c.put_heading-at.result + length (rest c.before.before.before.before.before) ≤ length c.put_heading-at.new.buffer
room_rest c = let s = c.before.before.before.before.before in room_then c.put_heading-at.ensures (rest s) (room_all s)

room_end : (c : After-put_groups-end) → c.put_groups-end.result + 1 ≤ length c.put_groups-end.new.buffer
room_end c = room_then c.put_groups-end.ensures (0x0A ∷ []) (room_rest c.before.before.before.before.before.before.before)

pub put_heading-at-requires : goal.put_heading-at-requires
put_heading-at-requires c = let s = (goal.at.put_heading-at-requires c).Start in rw (zero-add (length (heading s))) at (room_first 0 (heading s) (rest s) (room_all s))

pub put_groups-end-requires : goal.put_groups-end-requires
put_groups-end-requires c =
    room_first c.put_heading-at.result (groups (goal.at.put_groups-end-requires c).Start) (0x0A ∷ []) (room_rest (goal.at.put_groups-end-requires c).After-put_heading-at)

pub bounds-buffer-end : goal.bounds-buffer-end
bounds-buffer-end c = omega (arith, room_end (goal.at.bounds-buffer-end c).After-put_groups-end)

pub overflow_add-result : goal.overflow_add-result
overflow_add-result c = omega (arith, room_end (goal.at.overflow_add-result c).After-put_groups-end)

pub returns : goal.returns
returns c =
    let start = (goal.at.returns c).Start in
    rw (text start) (then_put {s = heading start} c.put_heading-at.ensures (then_put {s = groups start} c.put_groups-end.ensures put_byte))
