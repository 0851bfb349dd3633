use Prim.Native.Nat.{◌-◌, ◌^◌}
use native.Mathlib.Omega.{arith}
use mathlib.Core.Path.{sym, ◌∙◌}
use lib.ListN.{take, drop}
use mir.Syntax.{w32}
use mir.ValLaws.{to_z-of_z}
use Rattle.std.proofs.Common.{rules}
use Rattle.std.proofs.lemmas.List.{same_lists, places}
use Rattle.integers.specs.Rounding.{residue}
use Rattle.integers.proofs.Values.{value_bytes_length}
use Rattle.making.proofs.ValueWriting.{put_copied, four, last_bytes, bits_residue}
use Rattle.making.proofs.put_value.Goals as goal

-- what is copied is compared with the last of the four byte by byte, so that an edit of `sent` is refused by the byte that it gets wrong
pub returns : goal.returns
returns c =
    let z = c.args.z in
    let width = c.args.width in
    let long = value_bytes_length width z in
    let copied = rw (c.to_be_bytes-sent.ensures, to_z-of_z w32 z c.ranges.z, bits_residue z c.ranges.z) at c.copy_from_slice.ensures.after in
    let last = take (4 - (4 - width)) (drop (4 - width) (four (residue z (2 ^ 32)))) in
    put_copied (omega (arith, c.requires, long)) (sym long)
    (copied ∙ same_lists _ last (search (rules, places)) (λ k d h. grind (arith, places)) ∙ last_bytes width z (omega arith) (omega arith))
