use native.Mathlib.Omega.{arith}
use mathlib.Core.Path.{sym, ◌∙◌}
use Rattle.integers.proofs.Values.{in_bytes_length}
use Rattle.making.proofs.ValueWriting.{put_copied, four_in_bytes}
use Rattle.making.proofs.put_check.Goals as goal

pub returns : goal.returns
returns c =
    let n = c.crc32-check.result in
    let long = in_bytes_length 4 n in
    let sent = rw c.to_be_bytes-sent.ensures at c.copy_from_slice.ensures.after in
    rw (← c.crc32-check.ensures)
    (put_copied (omega (arith, c.requires, long)) (sym long) (sent ∙ four_in_bytes n))
