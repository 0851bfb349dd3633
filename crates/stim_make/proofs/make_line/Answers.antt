-- `stim_make::make_line` meets its contract: of a line that is turned down there is no datagram. Assumes nothing.
use mathlib.Core.Path.{refl, sym}
use Rattle.stim_make.proofs.MadeLaws.{made_none}
use Rattle.stim_make.proofs.make_line.Goals as goal

pub returns-in-Err : goal.returns-in-Err
returns-in-Err g c = rw (made_none c.args.accepted.setup c.args.line.now (sym c.in-Err.ensures)) (record { answer = refl; written = refl })
