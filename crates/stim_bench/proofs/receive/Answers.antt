-- `stim_bench::receive` meets its contract: what is allowed yet is what the first bytes left. Assumes nothing.
use Prim.Native.Nat.{◌-◌}
use mathlib.Core.Path.{sym, subst}
use native.Mathlib.Omega.{arith}
use lib.ListN.{take, drop}
use Rattle.search.specs.Search.{limits_of}
use Rattle.session.specs.declared.Session.{Session}
use Rattle.stim_bench.specs.Bench.{HasLeft}
use Rattle.stim_bench.proofs.LineLaws.{opened_left}
use Rattle.stim_bench.proofs.PartLaws.{left_behind}
use Rattle.stim_bench.proofs.receive.Goals as goal

pub feed_bytes-requires : goal.feed_bytes-requires
feed_bytes-requires g c =
    let h = opened_left c.requires.opens in
    record { sound = h.sound; room = omega (arith, h.room, c.requires.from_le_filled) }

pub receive_rest-requires : goal.receive_rest-requires
receive_rest-requires g c =
    let s = c.args in
    let k = (limits_of s.start.setup).session - (s.filled - s.from) in
    let p = take (s.filled - s.from) (drop s.from s.input.now) in
    subst (λ (x : Session). HasLeft x k) (sym c.in_ok-session.ensures)
    (left_behind s.start p k (opened_left c.requires.opens) (omega (arith, c.requires.from_le_filled)))
