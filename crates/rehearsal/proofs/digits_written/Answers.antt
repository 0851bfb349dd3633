use Rattle.rehearsal.specs.RehearsalLine.{digits_written}
use Rattle.rehearsal.proofs.digits_written.Goals as goal

pub returns : goal.returns
unfolding digits_written
returns c = rw (c.all_digits.ensures, c.byte_or_zero-first.ensures)
