-- `probe::given::history_of` meets its contract. Assumes nothing.
use Rattle.probe.specs.Records.{history_in}
use Rattle.probe.proofs.given.history_of.Goals as goal

pub returns : goal.returns
unfolding history_in
returns c =
    rw (
      c.group_axes_at.ensures,
      c.group_axes_at-2.ensures,
      c.group_axes_at-3.ensures,
      c.gyro_doubt_of-doubt.ensures,
      c.u64_at.ensures,
      c.byte_or_zero.ensures,
    )
