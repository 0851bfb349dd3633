-- `probe::given::u64_at` meets its contract. Assumes nothing.
use mathlib.Core.Path.{◌∙◌}
use Rattle.probe.proofs.Reading.{long_read}
use Rattle.probe.proofs.given.u64_at.Goals as goal

pub returns : goal.returns
returns c = (rw c.bytes_at.ensures at c.from_le_bytes.ensures) ∙ long_read c.args.s.now c.args.i
