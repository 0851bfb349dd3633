use native.Mathlib.Omega.{arith}
use mathlib.Core.Path.{◌≡◌}
use Prim.Native.Nat.{ℕ, ◌-◌}
use lib.ListN.{length, take}
use Rattle.std.proofs.lemmas.List.{append-nil, take_all, drop-replicate}
use Rattle.wire.proofs.FieldPlaces.{window_padded}
use Rattle.wire.proofs.window.Goals as goal

pub returns-in-Some : goal.returns-in-Some
returns-in-Some g c =
    let front = c.in-Some.ensures.cases in
    let none_missing : g.row.N - length c.bytes_from-rest.result.now ≡ 0 = let e = front.enough in omega arith in
    rw (window_padded g.row.N c.args.at c.args.s.now, ← c.bytes_from-rest.ensures, none_missing, append-nil (take g.row.N c.bytes_from-rest.result.now)) front.same

pub returns-in-None : goal.returns-in-None
returns-in-None g c =
    let rest = c.bytes_from-rest.result.now in
    let short = c.in-None.ensures.cases in
    let whole : take g.row.N rest ≡ rest = take_all g.row.N rest (omega arith) in
    rw (window_padded g.row.N c.args.at c.args.s.now, ← c.bytes_from-rest.ensures, whole, c.copy_from_slice.ensures.after, drop-replicate {X = ℕ} (length rest) g.row.N 0)
