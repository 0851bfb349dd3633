use mathlib.Core.Path.{ap, ◌∙◌}
use Prim.Native.Nat.{ℕ}
use lib.Dec.{ltb}
use Rattle.byte_slices.specs.ByteSlices.{index_of}
use Rattle.byte_slices.proofs.ByteSlices.{index_any}
use Rattle.search.proofs.is_near.Goals as goal

pub returns : goal.returns
returns c =
    let a = c.args in
    c.contains.ensures.value ∙ index_any a.byte a.group.now ∙ ap (λ (n : ℕ). ltb (index_of a.byte a.group.now) n) c.told-group
