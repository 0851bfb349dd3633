-- `crc::crc32_mpeg2` meets its contract. The invariant: the register after the bytes that are left, from here, is the check.
-- Assumes nothing.
use mathlib.Core.Path.{sym, ap, ◌∙◌}
use Prim.Native.Nat.{ℕ, ◌+◌}
use native.Mathlib.Omega.{arith}
use lib.ListN.{drop}
use Rattle.crc.specs.Check.{register}
use Rattle.crc.proofs.ByteLoop.{byte_next, byte_end, mpeg2_register}
use Rattle.crc.proofs.crc32_mpeg2.Goals as goal

pub loop-byte-init : goal.loop-byte-init
loop-byte-init c = (omega arith, sym (mpeg2_register c.args.s.now))

pub loop-byte-preserved : goal.loop-byte-preserved
loop-byte-preserved c =
    let l = c.loop-byte in
    let s = c.args.s.now in (
      omega arith,
      ap (λ (n : ℕ). register 32 0x04C11DB7 n (drop (l.byte-index + 1) s)) c.byte_step-check.ensures
          ∙ sym (byte_next 32 0x04C11DB7 l.check s l.byte-index c.loop-byte-test.true)
          ∙ l.invariant.1,
    )

pub returns : goal.returns
returns c =
    let l = c.loop-byte in
    sym (byte_end 32 0x04C11DB7 l.check c.args.s.now l.byte-index c.loop-byte-test.false) ∙ l.invariant.1
