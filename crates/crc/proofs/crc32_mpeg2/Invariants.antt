use mathlib.Core.Path.{◌≡◌}
use Prim.Native.Nat.{◌≤◌}
use lib.ListN.{length, drop}
use Rattle.crc.specs.Check.{register, check_of, mpeg2}
use Rattle.crc.proofs.crc32_mpeg2.Given as goal

abbrev pub invariant-loop-byte : goal.invariant-loop-byte
invariant-loop-byte l = (l.byte-index ≤ length l.s) × (register 32 0x04C11DB7 l.check (drop l.byte-index l.s) ≡ check_of mpeg2 l.s)
