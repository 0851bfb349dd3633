use mathlib.Core.Bool.{Bool}
use mathlib.Core.List.{List, [], ◌∷◌}
use Prim.Native.Nat.{ℕ, ◌<◌, ◌^◌}
use lib.IntN.{ℤ, pos}
use lib.Signed.{mag}
use lib.ListN.{get_or}
use mir.Syntax.{w32, w64}
use mir.Val.{hbits, of_z, to_z}
use Rattle.shown_line.specs.Decimal.{decimal}
use Rattle.integers.specs.Buffers.{Put}
use Rattle.shown_line.specs.Putting.{behind}
use Rattle.shown_line.specs.ShownLine.{shown_if}
use Rattle.text_line.proofs.Elements.{element_same}
use Rattle.shown_line.proofs.Fields.{room_field}
use Rattle.integers.proofs.Buffers.{put_none, then_put, room_then}
use borrow.Author.Rules.{rules}
use Rattle.text_line.proofs.put_axes.Goals as goal

-- the field of an axis, the fields from Y on, and from Z on
abbrev axis : Bool → List ℤ → ℕ → List ℕ
axis carried row i = shown_if carried (decimal (get_or row i (pos 0)))

abbrev from_z : Bool → List ℤ → List (List ℕ)
from_z carried row = axis carried row 2 ∷ []

abbrev from_y : Bool → List ℤ → List (List ℕ)
from_y carried row = axis carried row 1 ∷ from_z carried row

-- what is put of an axis is its field
field_put :
    {b b1 : List ℕ} {at n : ℕ} (carried : Bool) (z : ℤ) → mag z < 2 ^ hbits w32
    → Put b at (0x2C ∷ shown_if carried (decimal (to_z w64 (of_z w64 (to_z w32 (of_z w32 z)))))) b1 n → Put b at (0x2C ∷ shown_if carried (decimal z)) b1 n
field_put carried z h p = rw (element_same z h) at p

pub put_signed-requires : goal.put_signed-requires
put_signed-requires c =
    let row = c.args.row in
    let carried = c.args.carried in
    let x = field_put carried (get_or row 0 (pos 0)) (search rules) c.put_signed-x.ensures in
    let y = field_put carried (get_or row 1 (pos 0)) (search rules) c.put_signed-y.ensures in
    let room-y = room_then x (behind (from_y carried row)) c.requires in
    rw (element_same (get_or row 2 (pos 0)) (search rules)) (room_field (axis carried row 2) [] c.put_signed-y.result (room_then y (behind (from_z carried row)) room-y))

pub returns : goal.returns
returns c =
    let row = c.args.row in
    let carried = c.args.carried in
    then_put (field_put carried (get_or row 0 (pos 0)) (search rules) c.put_signed-x.ensures)
    (then_put (field_put carried (get_or row 1 (pos 0)) (search rules) c.put_signed-y.ensures)
    (then_put (field_put carried (get_or row 2 (pos 0)) (search rules) c.put_signed.ensures) put_none))
