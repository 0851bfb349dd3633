-- `probe::given::u32_at` meets its contract. Assumes nothing.
use mathlib.Core.Path.{◌∙◌}
use Rattle.probe.proofs.Reading.{word_read}
use Rattle.probe.proofs.given.u32_at.Goals as goal

pub returns : goal.returns
returns c = (rw c.bytes_at.ensures at c.from_le_bytes.ensures) ∙ word_read c.args.s.now c.args.i
