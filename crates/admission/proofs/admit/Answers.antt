use borrow.Author.Rules.{rules}
use Rattle.setup.proofs.Sensors.{described_accepted}
use Rattle.admission.proofs.admit.Goals as goal

pub admit_by-requires : goal.admit_by-requires
admit_by-requires c = described_accepted c.args.session.setup (search rules)
