-- What the scan finds first from i on, after i bytes passed over, is what it finds in the whole.
use Prim.Native.Nat.{ℕ, ◌+◌, ◌-◌, ◌≤◌}
use mathlib.Core.Path.{◌≡◌, refl, sym, ap, ◌∙◌}
use mathlib.Core.Bool.{Bool, true}
use mathlib.Core.List.{List, []}
use native.Mathlib.Nat.{add-zero}
use native.Mathlib.Omega.{arith}
use lib.ListN.{length, take, drop, length-drop, drop_of_length-le}
use lib.Seq.{length-take-le}
use Rattle.integers.specs.Bytes.{AllBytes}
use Rattle.integers.proofs.Bytes.{bytes_take, bytes_drop}
use Rattle.integers.proofs.Buffers.{part_of}
use Rattle.byte_slices.specs.ByteSlices.{index_of}
use Rattle.setup.specs.Layout.{layout_of}
use Rattle.setup.specs.declared.Sensor.{Sensor}
use Rattle.setup.proofs.Layouts.{length_range}
use Rattle.acceptance.specs.Acceptable.{acceptable_in}
use Rattle.scan.specs.Scan.{first, later}
use Rattle.scan.proofs.ScanLaws.{later_later}
use Rattle.scan.proofs.OneLength.{identifier_told, other_told}
use Rattle.scan.proofs.PlaceLaws.{passes_other, passes_wrong, holds_short, hands_right}
use Rattle.search.specs.declared.Place.TheVariants.{Complete, Undecided}
use Rattle.scan.specs.Rules.{Rules}
use Rattle.scan.specs.OneLength.{one_length}
use Rattle.search.specs.Search.{is_datagram_in, size_in, verdict_in, place_of}
use Rattle.byte_slices.proofs.ByteSlices.{index_within}
use Rattle.search.proofs.Others.{passes_onward}
use Rattle.search.proofs.Sensors.{bytes_sensor}
use Rattle.search.proofs.find.Goals as goal
use Rattle.refusals.specs.declared.Refusal.TheVariants.{PieceTooLong}

-- the rules by which a sensor's datagrams are searched
abbrev rules_in : Sensor → Rules
rules_in s = one_length s.identifier (size_in s) (is_datagram_in s) (record { piece = 0; too_long = PieceTooLong; session = 0 })

-- the test of the bytes from i up to i + size is the test of a datagram
tested :
    (s : Sensor) (p : List ℕ) (i size : ℕ) {t : Bool} → AllBytes p → size ≡ size_in s
    → acceptable_in s.identifier (layout_of s.row s.terminated) (take (i + size - i) (drop i p)) ≡ t
    → is_datagram_in s (take (size_in s) (drop i p)) ≡ t
tested s p i size h l e =
    bytes_sensor s (take (size_in s) (drop i p)) (bytes_take (size_in s) (bytes_drop i h))
    ∙ ap (λ (n : ℕ). acceptable_in s.identifier (layout_of s.row s.terminated) (take n (drop i p))) (sym l)
    ∙ ap (acceptable_in s.identifier (layout_of s.row s.terminated)) (sym (part_of p i size))
    ∙ e

pub returns-then-bytes-i-2 : goal.returns-then-bytes-i-2
returns-then-bytes-i-2 c =
    let l = c.loop-i in
    let a = c.args in
    let s = a.sensor in
    let p = a.bytes.now in
    let size = c.size_of-size.ensures in
    let told = identifier_told s.identifier (size_in s) _ c.if-bytes-i.true in
    let e = holds_short (rules_in s) p l.i (omega arith) told (omega (arith, size, c.if-bytes-i-2.true)) in
    ap Undecided (sym (add-zero l.i)) ∙ sym (ap place_of (l.invariant.0 ∙ ap (later l.i) e))

pub returns-then-is_datagram : goal.returns-then-is_datagram
returns-then-is_datagram c =
    let l = c.loop-i in
    let a = c.args in
    let s = a.sensor in
    let p = a.bytes.now in
    let size = c.size_of-size.ensures in
    let all : AllBytes p = record { each = λ i. omega (arith, c.type_inv.bytes i) } in
    let right : is_datagram_in s (take (size_in s) (drop l.i p)) ≡ true =
    tested s p l.i _ all size (sym c.is_datagram.ensures ∙ c.if-is_datagram.true) in
    let enough : size_in s ≤ length p - l.i = omega (arith, size, c.if-bytes-i-2.false) in
    let long : length (take (size_in s) (drop l.i p)) ≡ size_in s =
    length-take-le (size_in s) (drop l.i p) (omega (arith, length-drop l.i p)) in
    let told = identifier_told s.identifier (size_in s) _ c.if-bytes-i.true in
    let e = hands_right (rules_in s) p l.i (omega arith) told (omega (arith, (length_range s.row s.terminated).0)) enough right in
    ap (Complete l.i) (size ∙ sym long)
    ∙ ap (λ (n : ℕ). Complete n (length (take (size_in s) (drop l.i p)))) (sym (add-zero l.i))
    ∙ sym (ap place_of (l.invariant.0 ∙ ap (later l.i) e))

pub loop-i-preserved-then-bytes-i : goal.loop-i-preserved-then-bytes-i
loop-i-preserved-then-bytes-i c =
    let l = c.loop-i in
    let a = c.args in
    let s = a.sensor in
    let p = a.bytes.now in
    let size = c.size_of-size.ensures in
    let all : AllBytes p = record { each = λ i. omega (arith, c.type_inv.bytes i) } in
    let told = identifier_told s.identifier (size_in s) _ c.if-bytes-i.true in
    let e =
    passes_wrong (rules_in s) p l.i (omega arith) told (omega (arith, size, c.if-bytes-i-2.false))
    (tested s p l.i _ all size (sym c.is_datagram.ensures ∙ c.if-is_datagram.false)) in
    (l.invariant.0 ∙ ap (later l.i) e ∙ later_later l.i 1 (first (verdict_in s) (drop (l.i + 1) p)), omega arith)

pub loop-i-preserved : goal.loop-i-preserved
loop-i-preserved c =
    let l = c.loop-i in
    let a = c.args in
    let s = a.sensor in
    let p = a.bytes.now in
    let others = index_of s.identifier (drop (l.i + 1) p) in
    let next = c.next_place-i.result in
    let rest = first (verdict_in s) (drop next p) in
    let one = passes_other (rules_in s) p l.i (omega arith) (other_told s.identifier (size_in s) _ c.if-bytes-i.false) refl in
    let more = passes_onward s.identifier (size_in s) (is_datagram_in s) p (l.i + 1) c.next_place-i.ensures in
    let place : l.i + (1 + others) ≡ next = omega (arith, c.next_place-i.ensures) in (
      l.invariant.0
          ∙ ap (later l.i) (one ∙ ap (later 1) more ∙ later_later 1 others rest)
          ∙ later_later l.i (1 + others) rest
          ∙ ap (λ (n : ℕ). later n rest) place,
      omega (arith, c.next_place-i.ensures, index_within s.identifier (drop (l.i + 1) p), length-drop (l.i + 1) p),
    )

pub returns : goal.returns
unfolding first
returns c =
    let l = c.loop-i in
    let p = c.args.bytes.now in
    let e : drop l.i p ≡ [] = drop_of_length-le p {i = l.i} (omega arith) in
    sym (ap place_of l.invariant.0 ∙ rw (e, add-zero))
