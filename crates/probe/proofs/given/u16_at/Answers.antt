-- `probe::given::u16_at` meets its contract. Assumes nothing.
use mathlib.Core.Path.{◌∙◌}
use Rattle.probe.proofs.Reading.{short_read}
use Rattle.probe.proofs.given.u16_at.Goals as goal

pub returns : goal.returns
returns c = (rw c.bytes_at.ensures at c.from_le_bytes.ensures) ∙ short_read c.args.s.now c.args.i
