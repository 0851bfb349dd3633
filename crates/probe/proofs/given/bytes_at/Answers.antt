-- `probe::given::bytes_at` meets its contract. Assumes nothing.
use Rattle.probe.proofs.Reading.{made_window}
use borrow.Author.Rules.{rules}
use Rattle.probe.proofs.given.bytes_at.Goals as goal

pub returns : goal.returns
returns g c = made_window _ _ c.args.s.now c.args.at (λ k b q h. search rules) g.row.N c.from_fn.result c.from_fn.ensures.items
