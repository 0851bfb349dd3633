use Rattle.setup_line.proofs.Written.{decimal_short}
use Rattle.setup_line.proofs.number_at.Goals as goal

pub decimal_value-requires : goal.decimal_value-requires
decimal_value-requires c = decimal_short c.field.result.now (rw c.field.ensures c.requires)
