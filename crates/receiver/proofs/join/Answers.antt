-- `receiver::join` meets its contract. Assumes nothing.
use Prim.Native.Nat.{ℕ, ◌+◌, ◌-◌, ◌≤◌}
use mathlib.Core.Path.{◌≡◌, ap, ◌∙◌}
use mathlib.Core.List.{List, ◌++◌}
use native.Mathlib.Omega.{arith}
use borrow.Rule.Slice.PartMut.{mid_of, put_mid}
use lib.ListN.{length, drop, replicate, length-append, length-drop, length-replicate}
use lib.Seq.{sets, take_all, length-take-le}
use Rattle.integers.specs.Buffers.{padded}
use Rattle.integers.proofs.Buffers.{copied_front, copied_part, padded_sets}
use Rattle.byte_slices.specs.ByteSlices.{copied}
use Rattle.byte_slices.proofs.ByteSlices.{copied_whole}
use Rattle.receiver.proofs.join.Goals as goal
use Rattle.receiver.proofs.join.Goals.{After-copy-count}

-- the bytes held come first
count : (c : After-copy-count) → c.copy-count.result ≡ length c.args.held.now
count c = omega (arith, c.copy-count.ensures.count, length-replicate {A = ℕ} 128 0, c.requires.0)

front : (c : After-copy-count) → c.copy-count.new.target ≡ padded 128 c.args.held.now
front c = c.copy-count.ensures.bytes ∙ copied_front 128 c.args.held.now ∙ ap (padded 128) (take_all 128 c.args.held.now (omega (arith, c.requires.0)))

-- the piece comes behind the bytes held, at any place that is their count, so that an edit of the place is refused by the place
behind :
    {k : ℕ} {t : List ℕ} (h p b : List ℕ) → t ≡ copied p (mid_of k (128 - k) b) → k ≡ length h → b ≡ padded 128 h → length h + length p ≤ 128
    → put_mid k (128 - k) b t ≡ padded 128 (h ++ p)
behind {k} h p b written place first room =
    let long : length b ≡ 128 =
    omega (arith, ap length first, length-append h (replicate (128 - length h) 0), length-replicate {A = ℕ} (128 - length h) 0, room) in
    let within : k + length p ≤ 128 = omega (arith, place, room) in
    let part = length-take-le (128 - k) (drop k b) (omega (arith, length-drop k b)) in
    let fits : length p ≤ length (mid_of k (128 - k) b) = omega (arith, part, within) in
    copied_part b p k 128 long within (written ∙ copied_whole p (mid_of k (128 - k) b) fits)
    ∙ ap (λ (l : List ℕ). sets l k p) first
    ∙ padded_sets 128 h p k place room

pub returns : goal.returns
returns c =
    let first = (goal.at.returns c).After-copy-count in
    let place = count first in
    behind c.args.held.now c.args.piece.now c.copy-count.new.target c.copy.ensures.bytes (omega (arith, place)) (front first) c.requires.1
