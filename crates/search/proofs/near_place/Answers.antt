-- The byte is first, seen from the first group in which it stands, where it is first, seen from the beginning.
use Rattle.std.proofs.Common.{rules, tests, arith, ℕ, List, Bool, ◌≡◌, ◌∙◌, ◌+◌, ◌-◌, ◌*◌, ◌/◌, ◌≤◌, ap, length, take, drop, ltb}
use Rattle.std.proofs.lemmas.Iterator.{YieldsList-from_slice}
use Rattle.std.proofs.lemmas.Iterator.Search.{position_from_yields_List}
use Rattle.std.specs.List.{position, position_or_len}
use lib.ListN.{length-drop}
use lib.Seq.{take_all, drop-drop}
use Rattle.std.specs.Simd.{first_chunks}
use Rattle.byte_slices.specs.ByteSlices.{index_of}
use Rattle.byte_slices.proofs.ByteSlices.{position_given}
use Rattle.search.proofs.Others.{far_groups}
use Rattle.search.proofs.near_place.Goals as goal

pub returns : goal.returns
returns c =
    let a = c.args in
    let b = a.byte in
    let u = drop a.from a.bytes.now in
    let near : List ℕ → Bool = λ g. ltb (index_of b g) 16 in
    let groups = c.as_chunks.result.0.now in
    let whole : take (length a.bytes.now - a.from) u ≡ u = take_all _ u (omega (arith, length-drop a.from a.bytes.now)) in
    let found : c.position.result ≡ position near groups =
    position_from_yields_List _ _ _ _ c.position.ensures.ran (YieldsList-from_slice groups c.iter.ensures.rest) (λ x t q k. search (rules, tests)) in
    let n : ℕ = c.unwrap_or-far.result in
    let far : n ≡ position_or_len near (first_chunks 16 (length u / 16) u) =
    rw found at c.unwrap_or-far.ensures
    ∙ position_given near groups
    ∙ ap (position_or_len near) (c.as_chunks.ensures.front ∙ ap (λ (v : List ℕ). first_chunks 16 (length v / 16) v) whole) in
    let passed : (n * 16 ≤ length u) × (n * 16 + index_of b (drop (n * 16) u) ≡ index_of b u) = rw far (far_groups b (length u / 16) u (omega arith)) in (
      omega (arith, passed.0, length-drop a.from a.bytes.now),
      omega (arith, passed.1, ap (index_of b) (drop-drop (n * 16) a.from a.bytes.now)),
    )
