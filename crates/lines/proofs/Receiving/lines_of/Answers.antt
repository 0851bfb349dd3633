-- `Receiving::lines_of` meets its contract. Assumes nothing.
use native.Mathlib.Omega.{arith}
use Rattle.lines.proofs.LoopInvariant.{answered_finished}
use Rattle.lines.proofs.Receiving.lines_of.Goals as goal
use Rattle.lines.proofs.Receiving.lines_of.Goals.{After-lines_from-end}

pub slice_bounds-session_with-count : goal.slice_bounds-session_with-count
slice_bounds-session_with-count c = omega (arith, c.lines_from-end.ensures.within)

pub slice_bounds-session_with-start : goal.slice_bounds-session_with-start
slice_bounds-session_with-start c = omega (arith, c.lines_from-end.ensures.within)

pub returns : goal.returns
returns c =
    let a = c.args in
    let f = c.lines_from-end in
    answered_finished a.self.now.session a.at a.used a.piece.now a.buffer.now f.new.buffer f.result c.session_with-after.result c.requires.ready.accepted
    c.lines_from-end.ensures c.session_with-after.ensures
