-- `Call::scan_on` meets its contract: the scan of the rest of the piece stops at the place that find returns. Assumes nothing.
use Prim.Native.Nat.{ℕ, ◌+◌, ◌-◌, ◌≤◌}
use mathlib.Core.Path.{◌≡◌, ap, ◌∙◌}
use mathlib.Core.List.{List, []}
use native.Mathlib.Omega.{arith}
use lib.ListN.{length, take, drop, length-drop}
use Rattle.integers.proofs.Buffers.{to_end, part_of}
use Rattle.setup.proofs.Refusals.{accepted_length}
use Rattle.scan.specs.Scan.{finds, first, later}
use Rattle.search.specs.Search.{verdict_of}
use Rattle.search.proofs.Places.{IsComplete, IsUndecided}
use Rattle.feeding.specs.CallParts.{reply_after}
use Rattle.feeding.proofs.CallParts.{reply_found, reply_held}
use Rattle.receiver.proofs.Calls.{facts, short, complete, undecided}
use Rattle.receiver.proofs.Call.scan_on.Goals as goal
use Rattle.receiver.proofs.Call.scan_on.Goals.{In-Complete, In-Undecided, Start}

-- what find tells
complete_arm :
    (c : In-Complete) → let a = c.args.self.now in IsComplete a.session.setup (drop c.args.from a.piece.now) c.in-Complete.at c.in-Complete.size
complete_arm c = let a = c.args.self.now in complete a (to_end a.piece.now c.args.from) c.in-Complete.ensures

undecided_arm :
    (c : In-Undecided) → let a = c.args.self.now in IsUndecided a.session.setup (drop c.args.from a.piece.now) c.in-Undecided.at
undecided_arm c = let a = c.args.self.now in undecided a (to_end a.piece.now c.args.from) c.in-Undecided.ensures

-- the place lies in the piece
complete_within : (c : In-Complete) → c.args.from + (c.in-Complete.at + c.in-Complete.size) ≤ length c.args.self.now.piece.now
complete_within c = omega (arith, (complete_arm c).within, length-drop c.args.from c.args.self.now.piece.now, c.requires.1)

undecided_within : (c : In-Undecided) → c.args.from + c.in-Undecided.at ≤ length c.args.self.now.piece.now
undecided_within c = omega (arith, (undecided_arm c).within, length-drop c.args.from c.args.self.now.piece.now, c.requires.1)

-- the part of the piece that is searched
rest_length :
    (c : Start)
    → let a = c.args.self.now in length (take (length a.piece.now - c.args.from) (drop c.args.from a.piece.now)) ≡ length a.piece.now - c.args.from
rest_length c =
    let a = c.args.self.now in
    ap length (to_end a.piece.now c.args.from) ∙ length-drop c.args.from a.piece.now

pub overflow_add-end : goal.overflow_add-end
overflow_add-end c = omega (arith, complete_within (goal.at.overflow_add-end c).In-Complete, short c.args.self.now, c.requires.0)

pub overflow_add-passed : goal.overflow_add-passed
overflow_add-passed c = omega (arith, complete_within (goal.at.overflow_add-passed c).In-Complete, short c.args.self.now, c.requires.0)

pub overflow_add-from : goal.overflow_add-from
overflow_add-from c = omega (arith, complete_within (goal.at.overflow_add-from c).In-Complete, short c.args.self.now, c.requires.0)

pub slice_bounds-hand_out-end : goal.slice_bounds-hand_out-end
slice_bounds-hand_out-end c = omega (arith, complete_within (goal.at.slice_bounds-hand_out-end c).In-Complete, rest_length (goal.at.slice_bounds-hand_out-end c).Start)

pub hand_out-requires : goal.hand_out-requires
hand_out-requires c =
    let w = complete_within (goal.at.hand_out-requires c).In-Complete in
    let few = short c.args.self.now in
    (omega (arith, w, few, c.requires.0), omega (arith, w, few))

pub overflow_add-passed-in-Undecided : goal.overflow_add-passed-in-Undecided
overflow_add-passed-in-Undecided c = omega (arith, undecided_within (goal.at.overflow_add-passed-in-Undecided c).In-Undecided, short c.args.self.now, c.requires.0)

pub slice_bounds-hold-count : goal.slice_bounds-hold-count
slice_bounds-hold-count c = omega (arith, undecided_within (goal.at.slice_bounds-hold-count c).In-Undecided, rest_length (goal.at.slice_bounds-hold-count c).Start)

pub slice_bounds-hold-start : goal.slice_bounds-hold-start
slice_bounds-hold-start c = omega (arith, undecided_within (goal.at.slice_bounds-hold-start c).In-Undecided, rest_length (goal.at.slice_bounds-hold-start c).Start)

pub hold-requires : goal.hold-requires
hold-requires c =
    let a = c.args.self.now in
    let at = c.in-Undecided.at in
    let rest = take (length a.piece.now - c.args.from) (drop c.args.from a.piece.now) in (
      omega (arith, undecided_within (goal.at.hold-requires c).In-Undecided, short a, c.requires.0),
      omega (
        arith,
        ap length (to_end rest at),
        length-drop at rest,
        ap length (to_end a.piece.now c.args.from),
        (undecided_arm (goal.at.hold-requires c).In-Undecided).short,
        (accepted_length a.session.setup (facts a).accepted).1,
      ),
    )

pub returns-in-Complete : goal.returns-in-Complete
returns-in-Complete c =
    let a = c.args.self.now in
    let at = c.in-Complete.at in
    let n = c.in-Complete.size in
    let p = a.piece.now in
    let q = drop c.args.from p in
    let rest = take (length p - c.args.from) q in
    let w = complete_arm (goal.at.returns-in-Complete c).In-Complete in
    let handed : c.hand_out.result ≡ reply_after a.session (c.args.from + (at + n)) (finds (c.args.passed + at) (take (at + n - at) (drop at rest)) []) =
    c.hand_out.ensures in
    handed
    ∙ reply_found a.session p (take n (drop at q)) (take (at + n - at) (drop at rest)) (drop (at + n) q) (c.args.passed + at) (c.args.from + (at + n))
    (later c.args.passed (first (verdict_of a.session.setup) q)) (ap (later c.args.passed) w.scan)
    (omega (arith, length-drop (at + n) q, length-drop c.args.from p, w.within, c.requires.1))
    (part_of rest at n ∙ ap (λ (l : List ℕ). take n (drop at l)) (to_end p c.args.from))

pub returns-in-Undecided : goal.returns-in-Undecided
returns-in-Undecided c =
    let a = c.args.self.now in
    let at = c.in-Undecided.at in
    let p = a.piece.now in
    let q = drop c.args.from p in
    let rest = take (length p - c.args.from) q in
    c.hold.ensures
    ∙ reply_held a.session p (drop at q) (take (length rest - at) (drop at rest)) (c.args.passed + at)
    (later c.args.passed (first (verdict_of a.session.setup) q)) (ap (later c.args.passed) (undecided_arm (goal.at.returns-in-Undecided c).In-Undecided).scan)
    (to_end rest at ∙ ap (drop at) (to_end p c.args.from))
