-- `stim_bench::receive_rest` meets its contract: each turn takes from the bytes still allowed, and 12 refuses one more than those. Assumes nothing.
use Prim.Native.Nat.{ℕ, ◌+◌, ◌≤◌}
use mathlib.Core.Path.{◌≡◌, sym, subst}
use mathlib.Core.List.{List}
use native.Mathlib.Omega.{arith}
use lib.ListN.{length, take}
use lib.Seq.{length-take-le}
use Rattle.session.specs.declared.Session.{Session}
use Rattle.stim_bench.specs.Bench.{HasLeft, fed_with}
use Rattle.stim_bench.proofs.PartLaws.{left_behind, none_left}
use Rattle.stim_bench.proofs.receive_rest.Goals as goal

-- the session t behind the first bytes of those that came may be fed as many bytes as are left
fed_left : (s t : Session) (input : List ℕ) (fed left k : ℕ) → HasLeft s left → fed ≤ length input → t ≡ fed_with s (take fed input) → fed + k ≡ left → HasLeft t k
fed_left s t input fed left k H within behind e =
    let l = length-take-le fed input within in
    subst (λ (x : Session). HasLeft x k) (sym behind) (left_behind s (take fed input) k H (omega (arith, l, e)))

pub refuse_piece-requires : goal.refuse_piece-requires
refuse_piece-requires g c =
    let came = c.in_ok-count.ensures.bound in
    none_left c.in_ok-session.session 1
    (fed_left c.loop-count.session c.in_ok-session.session c.read_some.new.buffer c.min-fed.result c.loop-count.left 0 c.loop-count.invariant
    (omega (arith, c.if-fed-count.true, came)) c.in_ok-session.ensures (omega (arith, c.min-fed.ensures, c.if-fed-count.true)))
    (omega arith) (omega arith)

pub loop-count-preserved : goal.loop-count-preserved
loop-count-preserved g c =
    let came = c.in_ok-count.ensures.bound in
    let all : c.min-fed.result ≡ c.in_ok-count.count = omega (arith, c.min-fed.ensures, c.if-fed-count.false) in
    fed_left c.loop-count.session c.in_ok-session.session c.read_some.new.buffer c.min-fed.result c.loop-count.left _ c.loop-count.invariant
    (omega (arith, all, came)) c.in_ok-session.ensures (omega (arith, c.min-fed.ensures, c.if-fed-count.false))
