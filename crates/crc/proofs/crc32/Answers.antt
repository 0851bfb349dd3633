-- `crc::crc32` meets its contract. The invariant: the register after the bytes that are left, from here, is the check.
-- Assumes nothing.
use mathlib.Core.Path.{◌≡◌, sym, ap, ◌∙◌}
use mathlib.Core.List.{List, []}
use Prim.Native.Nat.{ℕ, ◌+◌, ◌*◌, ◌/◌, ◌≤◌, ◌<◌}
use native.Mathlib.Omega.{arith}
use lib.Dec.{lit<}
use lib.ListN.{length, get_or, drop, length-drop}
use lib.Seq.{drop-drop}
use Rattle.crc.specs.Check.{stim300, register, covered, check_of, check32}
use Rattle.crc.specs.Wide.{remainder}
use Rattle.crc.proofs.Remainder.{remainder_low}
use Rattle.crc.proofs.WordLoop.{four, word_four, four_next}
use Rattle.crc.proofs.crc32.Goals as goal

pub loop-first-init : goal.loop-first-init
unfolding check32 check_of stim300
loop-first-init c = (omega arith, ap (λ (n : ℕ). register 32 0x04C11DB7 n (covered 4 c.args.s.now)) (remainder_low 0xFFFFFFFF (lit< tt)))

pub loop-first-preserved : goal.loop-first-preserved
loop-first-preserved c =
    let s = c.args.s.now in
    let i = c.loop-first.first-index in
    let words = c.as_chunks.ensures in
    let u = drop (i * 4) s in
    let within : i < length s / 4 = omega (arith, c.loop-first-test.true, words.front_len) in
    let long : 4 ≤ length u = omega (arith, within, length-drop (i * 4) s) in
    let word = ap (λ (l : List (List ℕ)). four (get_or l i [])) words.front ∙ word_four (length s / 4) i s within in
    let step = c.word_step-check.ensures ∙ ap (register 32 0x04C11DB7 (remainder c.loop-first.check)) word in
    let behind : drop ((i + 1) * 4) s ≡ drop 4 u = let e : (i + 1) * 4 ≡ i * 4 + 4 = omega arith in ap (λ (n : ℕ). drop n s) e ∙ sym (drop-drop 4 (i * 4) s) in (
      omega (arith, within),
      rw behind (four_next 32 0x04C11DB7 (remainder c.loop-first.check) (remainder c.word_step-check.result) u long step ∙ c.loop-first.invariant.1),
    )
