use Rattle.wire.proofs.RowPlaces.{aux_at}
use Rattle.wire.proofs.aux_place.Goals as goal

pub returns : goal.returns
returns c = rw (aux_at c.args.row, c.if_carried.ensures.0, c.temperatures_end.ensures)
