-- `Call::scan_held` meets its contract: the scan of the bytes held and the front of the piece, and then of the rest of the piece. Assumes nothing.
use Prim.Native.Nat.{ℕ, ◌+◌, ◌-◌, ◌≤◌, ◌<◌, min}
use mathlib.Core.Path.{◌≡◌, sym, ap, ◌∙◌}
use mathlib.Core.List.{List, ◌++◌}
use native.Mathlib.Omega.{arith}
use lib.ListN.{length, take, drop, length-append, length-drop}
use lib.Seq.{length-take-le, take_all}
use Rattle.integers.proofs.Buffers.{to_end, part_of, padded_front}
use Rattle.integers.specs.Buffers.{padded}
use Rattle.session.specs.declared.Session.{Session}
use Rattle.setup.proofs.Refusals.{accepted_length}
use Rattle.setup.proofs.Sensors.{sensor_length}
use Rattle.scan.specs.Scan.{first, later}
use Rattle.search.specs.Search.{size_in, rules_of, verdict_of}
use Rattle.search.proofs.Places.{IsComplete, IsUndecided, complete_length}
use Rattle.admission.specs.Admission.{held_bytes}
use Rattle.admission.proofs.Soundness.{Facts}
use Rattle.feeding.specs.CallParts.{reply_at_once}
use Rattle.receiver.proofs.Joining.{complete_joined, complete_taken, undecided_joined}
use Rattle.feeding.proofs.CallParts.{count_less, reply_found, reply_held}
use Rattle.receiver.specs.declared.Call.{Call}
use Rattle.receiver.proofs.Calls.{facts, complete, undecided}
use Rattle.receiver.proofs.Call.scan_held.Goals as goal
use Rattle.receiver.proofs.Call.scan_held.Goals.{After-min-front, In-Complete, In-Undecided}

-- the bytes held, and the part of the piece that is searched with them
record Window (s : Session) (longest : ℕ) (p : List ℕ) (m : ℕ) : Type 0 where
  facts_of : Facts s
  greatest_of : longest ≡ (rules_of s.setup).greatest
  part : m ≡ min (length p) (longest - 1)

window_of :
    (a : Call) {longest m : ℕ} → longest ≡ size_in a.sensor → m ≡ min (length a.piece.now) (longest - 1) → Window a.session longest a.piece.now m
window_of a h k =
    record { facts_of = facts a; greatest_of = h ∙ ap size_in a.described ∙ sym (sensor_length a.session.setup (facts a).accepted); part = k }

window :
    (c : After-min-front) → let a = c.args.self.now in Window a.session c.length_of-longest.result a.piece.now c.min-front.result
window c = let a = c.args.self.now in window_of a c.length_of-longest.ensures c.min-front.ensures

module _ {s : Session} {longest : ℕ} {p : List ℕ} {m : ℕ} (w : Window s longest p m) where
  -- a datagram is of 65 bytes at most, so at most 64 are held
  longest_most : longest ≤ 65
  longest_most = omega (arith, (accepted_length s.setup w.facts_of.accepted).1, w.greatest_of)

  few : s.count < longest
  few = omega (arith, count_less s w.facts_of, w.greatest_of)

  count : length (held_bytes s) ≡ s.count
  count = length-take-le s.count s.held w.facts_of.within

  part_within : m ≤ length p
  part_within = omega (arith, w.part)

  front_length : length (held_bytes s ++ take m p) ≡ s.count + m
  front_length = omega (arith, length-append (held_bytes s) (take m p), count, length-take-le m p part_within)

  front_most : s.count + m ≤ 128
  front_most = omega (arith, w.part, longest_most, few)

  -- the window is the bytes held and that part
  window_is : {joined : List ℕ} → joined ≡ padded 128 (held_bytes s ++ take m p) → take (s.count + m) joined ≡ held_bytes s ++ take m p
  window_is e = ap (take (s.count + m)) e ∙ padded_front 128 (s.count + m) (held_bytes s ++ take m p) front_length

  window_length : {joined : List ℕ} → joined ≡ padded 128 (held_bytes s ++ take m p) → length (take (s.count + m) joined) ≡ s.count + m
  window_length e = ap length (window_is e) ∙ front_length

  -- the place lies in the window
  complete_within : {at size : ℕ} → IsComplete s.setup (held_bytes s ++ take m p) at size → at + size ≤ s.count + m
  complete_within k = omega (arith, k.within, front_length)

  -- where all datagrams have one length, one that is found there ends behind the bytes held
  ends_behind : {at size : ℕ} → IsComplete s.setup (held_bytes s ++ take m p) at size → s.count ≤ at + size
  ends_behind k = omega (arith, complete_length k, w.greatest_of, few)

  undecided_within : {at : ℕ} → IsUndecided s.setup (held_bytes s ++ take m p) at → at ≤ s.count + m
  undecided_within k = omega (arith, k.within, front_length)

  -- where the piece goes on behind the window, all bytes held are passed over
  behind : {at : ℕ} → IsUndecided s.setup (held_bytes s ++ take m p) at → (m ≡ length p → ⊥) → s.count ≤ at
  behind k n = omega (arith, k.short, front_length, w.part, w.greatest_of, few, n)

-- what find tells
complete_arm :
    (c : In-Complete) → let a = c.args.self.now in
    IsComplete a.session.setup (held_bytes a.session ++ take c.min-front.result a.piece.now) c.in-Complete.at c.in-Complete.size
complete_arm c =
    let a = c.args.self.now in
    complete a (window_is (window_of a c.length_of-longest.ensures c.min-front.ensures) c.join-joined.ensures) c.in-Complete.ensures

undecided_arm :
    (c : In-Undecided) → let a = c.args.self.now in
    IsUndecided a.session.setup (held_bytes a.session ++ take c.min-front.result a.piece.now) c.in-Undecided.at
undecided_arm c =
    let a = c.args.self.now in
    undecided a (window_is (window_of a c.length_of-longest.ensures c.min-front.ensures) c.join-joined.ensures) c.in-Undecided.ensures

pub overflow_sub-longest : goal.overflow_sub-longest
overflow_sub-longest c =
    let a = c.args.self.now in
    let range = accepted_length a.session.setup (facts a).accepted in
    let size = ap size_in a.described ∙ sym (sensor_length a.session.setup (facts a).accepted) in
    omega (arith, c.length_of-longest.ensures, size, range.0)

pub slice_bounds-held-end : goal.slice_bounds-held-end
slice_bounds-held-end c = (facts c.args.self.now).within

pub slice_bounds-join-end : goal.slice_bounds-join-end
slice_bounds-join-end c = sym (count (window (goal.at.slice_bounds-join-end c).After-min-front))

pub join-joined-requires : goal.join-joined-requires
join-joined-requires c =
    let wd = window (goal.at.join-joined-requires c).After-min-front in
    let held = count wd in (
      omega (arith, held, longest_most wd, few wd),
      omega (arith, held, front_most wd, length-take-le c.min-front.result c.args.self.now.piece.now (part_within wd)),
    )

pub overflow_add-joined : goal.overflow_add-joined
overflow_add-joined c =
    let wd = window (goal.at.overflow_add-joined c).After-min-front in omega (arith, front_most wd)

pub slice_bounds-joined-end : goal.slice_bounds-joined-end
slice_bounds-joined-end c =
    let wd = window (goal.at.slice_bounds-joined-end c).After-min-front in omega (arith, front_most wd)

pub slice_bounds-window-end : goal.slice_bounds-window-end
slice_bounds-window-end c =
    let wd = window (goal.at.slice_bounds-window-end c).After-min-front in
    sym (window_length wd c.join-joined.ensures)

pub overflow_add-end : goal.overflow_add-end
overflow_add-end c =
    let wd = window (goal.at.overflow_add-end c).After-min-front in
    let arm = complete_arm (goal.at.overflow_add-end c).In-Complete in omega (arith, complete_within wd arm, front_most wd)

pub overflow_sub-end : goal.overflow_sub-end
overflow_sub-end c =
    let wd = window (goal.at.overflow_sub-end c).After-min-front in
    let arm = complete_arm (goal.at.overflow_sub-end c).In-Complete in ends_behind wd arm

pub slice_bounds-hand_out-end : goal.slice_bounds-hand_out-end
slice_bounds-hand_out-end c =
    let wd = window (goal.at.slice_bounds-hand_out-end c).After-min-front in
    let arm = complete_arm (goal.at.slice_bounds-hand_out-end c).In-Complete in omega (arith, complete_within wd arm, window_length wd c.join-joined.ensures)

pub hand_out-requires : goal.hand_out-requires
hand_out-requires c =
    let wd = window (goal.at.hand_out-requires c).After-min-front in
    let w = complete_within wd (complete_arm (goal.at.hand_out-requires c).In-Complete) in
    (omega (arith, w, front_most wd), omega (arith, w, front_most wd))

pub slice_bounds-hold-count : goal.slice_bounds-hold-count
slice_bounds-hold-count c =
    let wd = window (goal.at.slice_bounds-hold-count c).After-min-front in
    let arm = undecided_arm (goal.at.slice_bounds-hold-count c).In-Undecided in omega (arith, undecided_within wd arm, window_length wd c.join-joined.ensures)

pub slice_bounds-hold-start : goal.slice_bounds-hold-start
slice_bounds-hold-start c =
    let wd = window (goal.at.slice_bounds-hold-start c).After-min-front in
    let arm = undecided_arm (goal.at.slice_bounds-hold-start c).In-Undecided in omega (arith, undecided_within wd arm, window_length wd c.join-joined.ensures)

pub hold-requires : goal.hold-requires
hold-requires c =
    let wd = window (goal.at.hold-requires c).After-min-front in
    let arm = undecided_arm (goal.at.hold-requires c).In-Undecided in
    let at = c.in-Undecided.at in
    let window = take (c.args.self.now.session.count + c.min-front.result) c.join-joined.result in (
      omega (arith, undecided_within wd arm, front_most wd),
      omega (
        arith,
        ap length (to_end window at),
        length-drop at window,
        window_length wd c.join-joined.ensures,
        front_length wd,
        arm.short,
        longest_most wd,
        wd.greatest_of,
      ),
    )

pub overflow_sub-at : goal.overflow_sub-at
overflow_sub-at c =
    let wd = window (goal.at.overflow_sub-at c).After-min-front in
    let arm = undecided_arm (goal.at.overflow_sub-at c).In-Undecided in behind wd arm c.if-front-piece.false

pub scan_on-requires : goal.scan_on-requires
scan_on-requires c =
    let wd = window (goal.at.scan_on-requires c).After-min-front in
    let w = undecided_within wd (undecided_arm (goal.at.scan_on-requires c).In-Undecided) in
    (omega (arith, w, front_most wd), omega (arith, w, part_within wd))

pub returns-in-Complete : goal.returns-in-Complete
returns-in-Complete c =
    let wd = window (goal.at.returns-in-Complete c).After-min-front in
    let arm = complete_arm (goal.at.returns-in-Complete c).In-Complete in
    let a = c.args.self.now in
    let u = a.session.setup in
    let at = c.in-Complete.at in
    let n = c.in-Complete.size in
    let m = c.min-front.result in
    let p = a.piece.now in
    let h = held_bytes a.session in
    let window = take (a.session.count + m) c.join-joined.result in
    let w = arm in
    let long = count wd in
    let e : at + n - a.session.count ≡ at + n - length h = omega (arith, long) in
    c.hand_out.ensures
    ∙ reply_found a.session p (take n (drop at (h ++ take m p))) (take (at + n - at) (drop at window)) (drop (at + n) (h ++ take m p) ++ drop m p)
    at (at + n - a.session.count) (first (verdict_of u) (h ++ p)) (complete_joined u (facts a).accepted h p m at w)
    (e ∙ sym (complete_taken u (facts a).accepted h p m at w (omega (arith, long, ends_behind wd arm)) (part_within wd)))
    (part_of window at n ∙ ap (λ (y : List ℕ). take n (drop at y)) (window_is wd c.join-joined.ensures))

pub returns-then-front-piece : goal.returns-then-front-piece
returns-then-front-piece c =
    let wd = window (goal.at.returns-then-front-piece c).After-min-front in
    let arm = undecided_arm (goal.at.returns-then-front-piece c).In-Undecided in
    let a = c.args.self.now in
    let u = a.session.setup in
    let at = c.in-Undecided.at in
    let m = c.min-front.result in
    let p = a.piece.now in
    let h = held_bytes a.session in
    let window = take (a.session.count + m) c.join-joined.result in
    let t : take m p ≡ p = take_all m p (omega (arith, c.if-front-piece.true)) in
    c.hold.ensures
    ∙ reply_held a.session p (drop at (h ++ take m p)) (take (length window - at) (drop at window)) at (first (verdict_of u) (h ++ p))
    (ap (λ (y : List ℕ). first (verdict_of u) (h ++ y)) (sym t) ∙ arm.scan)
    (to_end window at ∙ ap (drop at) (window_is wd c.join-joined.ensures))

pub returns-else-front-piece : goal.returns-else-front-piece
returns-else-front-piece c =
    let wd = window (goal.at.returns-else-front-piece c).After-min-front in
    let arm = undecided_arm (goal.at.returns-else-front-piece c).In-Undecided in
    let a = c.args.self.now in
    let u = a.session.setup in
    let at = c.in-Undecided.at in
    let m = c.min-front.result in
    let p = a.piece.now in
    let h = held_bytes a.session in
    let l = count wd in
    let g : first (verdict_of u) (h ++ p) ≡ later at (first (verdict_of u) (drop (at - a.session.count) p)) =
    undecided_joined u (facts a).accepted h p m at arm (omega (arith, l, behind wd arm c.if-front-piece.false)) (part_within wd)
    ∙ ap (λ (k : ℕ). later at (first (verdict_of u) (drop (at - k) p))) l
    in
    c.scan_on.ensures ∙ ap (reply_at_once a.session p) (sym g)
