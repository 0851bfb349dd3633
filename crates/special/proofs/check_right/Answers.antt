use Prim.Native.Nat.{◌+◌}
use mathlib.Core.List.{[], ◌∷◌}
use mathlib.Core.Path.{◌≡◌}
use lib.ListN.{get_or}
use Rattle.integers.specs.Bytes.{big_endian}
use Rattle.special.proofs.Specials.{check_bytes_lem}
use Rattle.special.proofs.check_right.Goals as goal

pub returns : goal.returns
returns c =
    let start = c in
    let s = start.args.s.now in
    let n = start.args.place in
    let sent : c.four_bytes_of-sent.result ≡ big_endian (get_or s n 0 ∷ get_or s (n + 1) 0 ∷ get_or s (n + 2) 0 ∷ get_or s (n + 3) 0 ∷ []) =
    c.four_bytes_of-sent.ensures in
    rw (check_bytes_lem s n start.requires, sent, c.crc32.ensures)
