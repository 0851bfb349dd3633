-- `crc::last_step` meets its contract: past the end the bytes are zero.
-- Assumes nothing.
use mathlib.Core.Path.{sym, ap}
use Rattle.std.proofs.Common.{rules, ◌<◌, length, ◌≡◌}
use Rattle.crc.specs.Check.{register}
use Rattle.crc.specs.Wide.{remainder}
use Rattle.crc.proofs.WordLoop.{covered_few, covered_none}
use Rattle.crc.proofs.last_step.Goals as goal

pub returns-then-is_empty : goal.returns-then-is_empty
unfolding register
returns-then-is_empty c =
    let none : length c.args.rest.now ≡ 0 = search rules in
    sym (ap (register 32 0x04C11DB7 (remainder c.args.c)) (covered_none c.args.rest.now none))

pub returns : goal.returns
returns c =
    let u = c.args.rest.now in
    let some : 0 < length u = search rules in
    rw (covered_few u some c.requires, ← c.byte_or_zero-second.ensures, ← c.byte_or_zero-third.ensures) c.word_step.ensures
