-- The check a byte at a time, and a byte's eight shifts one at a time.
-- Assumes nothing.
use mathlib.Core.Path.{◌≡◌, refl, sym, ap, ◌∙◌}
use mathlib.Core.List.{List}
use Prim.Native.Nat.{ℕ, suc, ◌+◌, ◌-◌, ◌≤◌, ◌<◌}
use native.Mathlib.Omega.{arith}
use native.Mathlib.Numerals.{add-one}
use lib.ListN.{length, get_or, drop, drop_of_length-le}
use lib.Seq.{drop-cons}
use Rattle.crc.specs.Check.{stim300, shift, shifts, byte_step, register, check_of, mpeg2}
use Rattle.crc.proofs.Padding.{covered_one}

-- in a loop of eight shifts, the shifts that are left, from here, are the eight of the start
pub record EightLeft (w p start x count : ℕ) : Type 0 where
  pub few : count ≤ 8
  pub left : shifts w p (8 - count) x ≡ shifts w p 8 start

pub eight_start : (w p x : ℕ) → EightLeft w p x x 0
eight_start w p x = record { few = omega arith; left = refl }

module _ {w p start x count : ℕ} (inv : EightLeft w p start x count) where
  pub eight_next : {y : ℕ} → count < 8 → y ≡ shift w p x → EightLeft w p start y (count + 1)
  unfolding shifts
  eight_next h e =
      let k : 8 - count ≡ suc (8 - (count + 1)) = omega arith in
      record { few = omega arith; left = ap (shifts w p (8 - (count + 1))) e ∙ sym (ap (λ (n : ℕ). shifts w p n x) k) ∙ inv.left }

  pub eight_end : 8 ≤ count → x ≡ shifts w p 8 start
  unfolding shifts
  eight_end h =
      let k : 8 - count ≡ 0 = omega arith in
      sym (ap (λ (n : ℕ). shifts w p n x) k) ∙ inv.left

module _ (w p c : ℕ) where
  pub byte_next : (s : List ℕ) (i : ℕ) → i < length s → register w p c (drop i s) ≡ register w p (byte_step w p c (get_or s i 0)) (drop (i + 1) s)
  unfolding register
  byte_next s i h = rw (add-one, drop-cons s i 0)

  pub byte_end : (s : List ℕ) (i : ℕ) → length s ≤ i → register w p c (drop i s) ≡ c
  unfolding register
  byte_end s i h = ap (register w p c) (drop_of_length-le s h)

pub mpeg2_register : (s : List ℕ) → check_of mpeg2 s ≡ register 32 0x04C11DB7 0xFFFFFFFF s
unfolding check_of mpeg2 stim300
mpeg2_register s = ap (register 32 0x04C11DB7 0xFFFFFFFF) (covered_one s)
