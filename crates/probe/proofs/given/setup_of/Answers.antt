-- `probe::given::setup_of` meets its contract. Assumes nothing.
use Rattle.probe.specs.Records.{setup_in}
use Rattle.probe.proofs.given.setup_of.Goals as goal

pub returns : goal.returns
unfolding setup_in
returns c = rw (c.three_at-units.ensures, c.three_at-shifts.ensures, c.u16_at.ensures, c.byte_or_zero.ensures, c.u16_at-2.ensures)
