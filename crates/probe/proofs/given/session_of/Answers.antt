-- `probe::given::session_of` meets its contract. Assumes nothing.
use Rattle.probe.specs.Records.{session_in}
use Rattle.probe.proofs.given.session_of.Goals as goal

pub returns : goal.returns
unfolding session_in
returns c =
    rw (
      c.setup_of-setup.ensures,
      c.bytes_at-held.ensures,
      c.history_of-history.ensures,
      c.u64_at.ensures,
      c.u64_at-2.ensures,
      c.u64_at-3.ensures,
    )
