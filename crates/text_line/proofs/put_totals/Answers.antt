use Rattle.integers.proofs.Buffers.{put_none, then_put}
use Rattle.text_line.proofs.put_totals.Goals as goal
use Rattle.text_line.proofs.put_totals.Goals.{After-put_total-x, After-put_total-y}

pub returns : goal.returns
returns c = then_put c.put_total-x.ensures (then_put c.put_total-y.ensures (then_put c.put_total.ensures put_none))
