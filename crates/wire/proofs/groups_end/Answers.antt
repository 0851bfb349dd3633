use Rattle.wire.proofs.RowPlaces.{groups_end_lem}
use Rattle.wire.proofs.groups_end.Goals as goal

pub returns : goal.returns
returns c = rw (groups_end_lem c.args.row, c.if_carried.ensures.0, c.if_carried-2.ensures.0)
