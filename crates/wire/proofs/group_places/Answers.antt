use Rattle.wire.proofs.RowPlaces.{groups_at}
use Rattle.wire.proofs.group_places.Goals as goal

pub returns : goal.returns
returns c =
    let a = c.args in
    rw (groups_at a.row, c.if_carried-2.ensures.0, c.if_carried-3.ensures.0, c.if_carried.ensures.0)
