-- `probe::given::gyro_doubt_of` meets its contract. Assumes nothing.
use Rattle.probe.specs.Records.{gyro_doubt_in}
use Rattle.probe.proofs.given.gyro_doubt_of.Goals as goal

pub returns : goal.returns
unfolding gyro_doubt_in
returns c = rw (c.doubt_at.ensures, c.doubt_at-2.ensures, c.doubt_at-3.ensures)
