use mathlib.Core.Path.{◌≡◌}
use Prim.Native.Nat.{◌*◌, ◌/◌, ◌≤◌}
use lib.ListN.{length, drop}
use Rattle.crc.specs.Check.{register, covered, check32}
use Rattle.crc.specs.Wide.{remainder}
use Rattle.crc.proofs.crc32.Given as goal

abbrev pub invariant-loop-first : goal.invariant-loop-first
invariant-loop-first l =
    (l.first-index ≤ length l.s / 4) × (register 32 0x04C11DB7 (remainder l.check) (covered 4 (drop (l.first-index * 4) l.s)) ≡ check32 l.s)
