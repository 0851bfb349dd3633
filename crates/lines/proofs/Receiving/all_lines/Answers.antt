-- `Receiving::all_lines` meets its contract. Assumes nothing.
use lib.ListN.{length}
use Rattle.lines.proofs.LoopInvariant.{ready_start}
use Rattle.lines.proofs.Receiving.all_lines.Goals as goal

pub lines_of-requires-clause-ready : goal.lines_of-requires-clause-ready
lines_of-requires-clause-ready c = ready_start c.args.self.now.session c.args.piece.now (length c.args.buffer.now) c.requires
