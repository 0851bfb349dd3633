-- `session::session_with` meets its contract. Assumes nothing.
use mathlib.Core.Path.{◌≡◌, ◌∙◌}
use Prim.Native.Nat.{ℕ}
use native.Mathlib.Omega.{arith}
use lib.ListN.{length, take, length-take, length-replicate}
use Rattle.integers.proofs.Buffers.{copied_front}
use Rattle.session.proofs.session_with.Goals as goal

pub returns : goal.returns
returns c =
    let l = c.args.undecided.now in
    let count : c.copy-count.result ≡ length (take 64 l) = omega (arith, c.copy-count.ensures.count, length-take 64 l, length-replicate {A = ℕ} 64 0) in
    rw (c.copy-count.ensures.bytes ∙ copied_front 64 l, count)
