-- `Receiving::lines_from` meets its contract: what is left of the piece gives what the whole gives. Assumes nothing.
use Prim.Native.Nat.{ℕ, ◌+◌, ◌-◌, ◌≤◌}
use mathlib.Core.Path.{◌≡◌, sym, ap, ◌∙◌, subst}
use mathlib.Core.List.{List}
use native.Mathlib.Omega.{arith}
use lib.ListN.{length, take, drop, length-drop}
use lib.Seq.{sets}
use Rattle.integers.proofs.Buffers.{to_end, part_of}
use Rattle.scan.specs.Scan.{first}
use Rattle.search.specs.Search.{is_datagram, verdict_of, place_of}
use Rattle.search.proofs.Datagrams.{datagram_least}
use Rattle.search.proofs.Places.{IsComplete, IsUndecided, found_complete, found_undecided}
use Rattle.lines.specs.declared.Progress.{Progress}
use Rattle.whole_piece.specs.NextLines.{next_line}
use Rattle.lines.specs.PieceParts.{next_of, Ready, Finished}
use Rattle.lines.proofs.LoopInvariant.{Invariant, invariant_start, complete_within, complete_long, invariant_next, undecided_within}
use Rattle.lines.proofs.LoopInvariant.{finished_stop, finished_all, ready_less}
use Rattle.lines.proofs.Receiving.lines_from.Goals as goal
use Rattle.lines.proofs.Receiving.lines_from.Goals.{In-Complete, In-Undecided}

-- the bytes that are left of the piece as the code takes them
abbrev rest : List ℕ → ℕ → List ℕ
rest p at = take (length p - at) (drop at p)

-- the datagram in it
abbrev found : List ℕ → ℕ → ℕ → ℕ → List ℕ
found p at over size = take size (drop over (drop at p))

rest_length : (p : List ℕ) (at : ℕ) → length (rest p at) ≡ length p - at
rest_length p at = ap length (to_end p at) ∙ length-drop at p

cut : (p : List ℕ) (at over size : ℕ) → take (over + size - over) (drop over (rest p at)) ≡ found p at over size
cut p at over size = part_of (rest p at) over size ∙ ap (λ (v : List ℕ). take size (drop over v)) (to_end p at)

-- what find tells
complete_arm :
    (c : In-Complete) → IsComplete c.args.self.now.session.setup (drop c.loop-going.going.at c.args.piece.now) c.in-Complete.skipped c.in-Complete.size
complete_arm c =
    let u = c.args.self.now.session.setup in
    let p = c.args.piece.now in
    let at = c.loop-going.going.at in
    found_complete u c.loop-going.invariant.ready.accepted (drop at p) c.in-Complete.skipped
    (ap (λ (v : List ℕ). place_of (first (verdict_of u) v)) (sym (to_end p at)) ∙ sym c.in-Complete.ensures)

undecided_arm :
    (c : In-Undecided) → IsUndecided c.args.self.now.session.setup (drop c.loop-going.going.at c.args.piece.now) c.in-Undecided.skipped
undecided_arm c =
    let u = c.args.self.now.session.setup in
    let p = c.args.piece.now in
    let at = c.loop-going.going.at in
    found_undecided u c.loop-going.invariant.ready.accepted (drop at p) c.in-Undecided.skipped
    (ap (λ (v : List ℕ). place_of (first (verdict_of u) v)) (sym (to_end p at)) ∙ sym c.in-Undecided.ensures)

within : (c : In-Complete) → c.loop-going.going.at + (c.in-Complete.skipped + c.in-Complete.size) ≤ length c.args.piece.now
within c =
    let l = c.loop-going in
    let a = c.args in
    complete_within a.self.now.session.setup a.start a.piece.now a.buffer.now l.going l.buffer l.invariant c.in-Complete.skipped c.in-Complete.size (complete_arm c)

found_long : (c : In-Complete) → length (found c.args.piece.now c.loop-going.going.at c.in-Complete.skipped c.in-Complete.size) ≡ c.in-Complete.size
found_long c =
    let l = c.loop-going in
    let a = c.args in
    complete_long a.self.now.session.setup a.start a.piece.now a.buffer.now l.going l.buffer l.invariant c.in-Complete.skipped c.in-Complete.size (complete_arm c)

pub loop-going-init : goal.loop-going-init
loop-going-init c =
    let a = c.args in
    invariant_start a.self.now.session.setup a.start a.piece.now a.buffer.now c.requires

pub overflow_add-end : goal.overflow_add-end
overflow_add-end c = omega (arith, within (goal.at.overflow_add-end c).In-Complete, c.loop-going.invariant.ready.most)

pub slice_bounds-one_line-end : goal.slice_bounds-one_line-end
slice_bounds-one_line-end c =
    omega (arith, within (goal.at.slice_bounds-one_line-end c).In-Complete, rest_length c.args.piece.now c.loop-going.going.at)

pub one_line-going-requires : goal.one_line-going-requires
one_line-going-requires c =
    let k = (goal.at.one_line-going-requires c).In-Complete in
    let l = c.loop-going in
    let p = c.args.piece.now in
    let u = c.args.self.now.session.setup in
    let n = c.in-Complete.skipped in
    let e = cut p l.going.at n c.in-Complete.size in
    let d = found p l.going.at n c.in-Complete.size in
    record {
      ready =
          subst (λ (v : List ℕ). Ready u l.going (l.going.at + (n + length v)) (length l.buffer)) (sym e)
          (ready_less u l.going (length p) (l.going.at + (n + length d)) (length l.buffer) (omega arith)
          (omega (arith, within k, found_long k)) l.invariant.ready);
      whole = ap (is_datagram u) e ∙ (complete_arm k).good;
    }

pub loop-going-smaller : goal.loop-going-smaller
unfolding next_of
loop-going-smaller c =
    let k = (goal.at.loop-going-smaller c).In-Complete in
    let l = c.loop-going in
    let p = c.args.piece.now in
    let u = c.args.self.now.session.setup in
    let n = c.in-Complete.skipped in
    let moved : c.one_line-going.result ≡ next_of u l.going n (found p l.going.at n c.in-Complete.size) =
    c.one_line-going.ensures.answer ∙ ap (next_of u l.going n) (cut p l.going.at n c.in-Complete.size) in
    omega (
      arith,
      ap (λ (x : Progress). x.at) moved,
      found_long k,
      within k,
      datagram_least u (found p l.going.at n c.in-Complete.size) (complete_arm k).good,
    )

pub loop-going-preserved : goal.loop-going-preserved
loop-going-preserved c =
    let k = (goal.at.loop-going-preserved c).In-Complete in
    let l = c.loop-going in
    let a = c.args in
    let u = a.self.now.session.setup in
    let p = a.piece.now in
    let b = a.buffer.now in
    let o = c.one_line-going in
    let n = c.in-Complete.skipped in
    let d = found p l.going.at n c.in-Complete.size in
    let e = cut p l.going.at n c.in-Complete.size in
    let moved : o.result ≡ next_of u l.going n d = o.ensures.answer ∙ ap (next_of u l.going n) e in
    let written : List ℕ → List ℕ = λ v. sets l.buffer l.going.used (next_line u l.going.history v) in
    subst (λ (t : List ℕ). Invariant u a.start p b o.result t) (sym (o.ensures.written ∙ ap written e))
    (subst (λ (x : Progress). Invariant u a.start p b x (written d)) (sym moved)
    (invariant_next u a.start p b l.going l.buffer l.invariant n c.in-Complete.size (complete_arm k)))

pub stop-requires : goal.stop-requires
stop-requires c =
    let l = c.loop-going in
    let a = c.args in
    let n = c.in-Undecided.skipped in
    let w = undecided_within a.self.now.session.setup a.start a.piece.now a.buffer.now l.going l.buffer l.invariant n (undecided_arm (goal.at.stop-requires c).In-Undecided) in
    (omega (arith, w, l.invariant.ready.passed), omega (arith, w, l.invariant.ready.most))

pub returns-in-Undecided : goal.returns-in-Undecided
returns-in-Undecided c =
    let l = c.loop-going in
    let a = c.args in
    let n = c.in-Undecided.skipped in
    subst (Finished a.self.now.session.setup a.start a.piece.now a.buffer.now l.buffer) (sym c.stop.ensures)
    (finished_stop a.self.now.session.setup a.start a.piece.now a.buffer.now l.going l.buffer l.invariant n (undecided_arm (goal.at.returns-in-Undecided c).In-Undecided))

pub returns : goal.returns
returns c =
    let l = c.loop-going in
    let a = c.args in
    finished_all a.self.now.session.setup a.start a.piece.now a.buffer.now l.going l.buffer l.invariant (omega (arith, c.loop-going-test.false))
