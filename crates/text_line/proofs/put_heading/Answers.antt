use Rattle.integers.proofs.Buffers.{put_none, then_put}
use Rattle.text_line.proofs.put_heading.Goals as goal
use Rattle.text_line.proofs.put_heading.Goals.{After-put_digits-ordinal, After-put_unsigned-counter, Start}

pub returns : goal.returns
returns c = then_put c.put_digits-ordinal.ensures (then_put c.put_unsigned-counter.ensures (then_put c.put_unsigned-latency.ensures (then_put c.put_missed.ensures put_none)))
