-- A value as the code writes it: the last bytes of its four.
use Prim.Native.Nat.{ℕ, zero, suc, ◌+◌, ◌-◌, ◌/◌, ◌%◌, ◌^◌, ◌≤◌}
use native.Mathlib.Omega.{arith}
use mathlib.Core.Bool.{Bool, true, false, cond}
use mathlib.Core.List.{List, [], ◌∷◌, append_assoc}
use mathlib.Core.Logic.{◌⊎◌, inl, inr}
use mathlib.Core.Path.{◌≡◌, refl, sym, ◌∙◌}
use borrow.Rule.Slice.PartMut.{put_mid}
use lib.IntN.{ℤ, pos, negsuc}
use lib.ListN.{length, take, drop, set}
use lib.Seq.{drop-drop, sets-eq}
use mir.Syntax.{w32}
use mir.Val.{SFits, of_z}
use Rattle.integers.specs.Buffers.{Put}
use Rattle.integers.specs.Bytes.{in_bytes, value_bytes}
use Rattle.integers.specs.Rounding.{residue}
use Rattle.integers.proofs.Buffers.{put_none, put_two}
use Rattle.making.specs.Writing.{ending_bytes}

-- ---- bytes copied into a part of the buffer

pub put_copied :
    {b text e : List ℕ} {at n : ℕ} → at + length text ≤ length b → n ≡ length text → e ≡ text
    → Put b at text (put_mid at (at + n - at) b e) (at + n)
put_copied {b} {text} {e} {at} {n} h l same =
    let m : at + n - at ≡ length text = omega arith in
    record {
      place = omega arith;
      bytes = rw (m, same, drop-drop (length text) at b) (sym (append_assoc (take at b) text (drop (at + length text) b)) ∙ sym (sets-eq text b at h));
    }

-- ---- a value is the last bytes of its four

abbrev pub four : ℕ → List ℕ
four n = n / 16777216 % 256 ∷ n / 65536 % 256 ∷ n / 256 % 256 ∷ n % 256 ∷ []

pub four_in_bytes : (n : ℕ) → four n ≡ in_bytes 4 n
unfolding in_bytes
four_in_bytes n = let x : n / 1 % 256 ≡ n % 256 = omega arith in rw x

-- a smaller width takes the lower bytes
lower : (z : ℤ) (k : ℕ) → (k ≡ 256) ⊎ ((k ≡ 65536) ⊎ (k ≡ 16777216)) → residue z (2 ^ 32) % k ≡ residue z k
lower (pos a) k (inl e) = rw e (omega arith)
lower (pos a) k (inr (inl e)) = rw e (omega arith)
lower (pos a) k (inr (inr e)) = rw e (omega arith)
lower (negsuc a) k (inl e) = rw e (omega arith)
lower (negsuc a) k (inr (inl e)) = rw e (omega arith)
lower (negsuc a) k (inr (inr e)) = rw e (omega arith)

pub last_bytes : (w : ℕ) (z : ℤ) → 1 ≤ w → w ≤ 3 → take (4 - (4 - w)) (drop (4 - w) (four (residue z (2 ^ 32)))) ≡ value_bytes w z
unfolding value_bytes in_bytes
last_bytes zero z h l = absurd (omega arith)
last_bytes (suc zero) z h l =
    let r = lower z 256 (inl refl) in
    let x : residue z (2 ^ 32) % 256 ≡ residue z 256 / 1 % 256 = omega arith in
    rw x
last_bytes (suc (suc zero)) z h l =
    let r = lower z 65536 (inr (inl refl)) in
    let x : residue z (2 ^ 32) % 256 ≡ residue z 65536 / 1 % 256 = omega arith in
    let y : residue z (2 ^ 32) / 256 % 256 ≡ residue z 65536 / 256 % 256 = omega arith in
    rw (x, y)
last_bytes (suc (suc (suc zero))) z h l =
    let r = lower z 16777216 (inr (inr refl)) in
    let x : residue z (2 ^ 32) % 256 ≡ residue z 16777216 / 1 % 256 = omega arith in
    let y : residue z (2 ^ 32) / 256 % 256 ≡ residue z 16777216 / 256 % 256 = omega arith in
    let t : residue z (2 ^ 32) / 65536 % 256 ≡ residue z 16777216 / 65536 % 256 = omega arith in
    rw (x, y, t)
last_bytes (suc (suc (suc (suc w)))) z h l = absurd (omega arith)

-- the machine's bits of a number
pub bits_residue : (z : ℤ) → SFits w32 z → of_z w32 z ≡ residue z (2 ^ 32)
bits_residue (pos a) f = let h = f.sfits in let e : a % 4294967296 ≡ a = omega arith in sym e
bits_residue (negsuc a) f = let h = f.sfits in let e : a % 4294967296 ≡ a = omega arith in rw e

-- ---- the ending

module _ {terminated : Bool} where
  pub ending_none : {b : List ℕ} {at : ℕ} → terminated ≡ false → Put b at (ending_bytes terminated) b at
  unfolding ending_bytes
  ending_none e = rw e put_none

  pub ending_put : {b : List ℕ} {at : ℕ} → terminated ≡ true → Put b at (ending_bytes terminated) (set (set b at 0x0D) (at + 1) 0x0A) (at + 2)
  unfolding ending_bytes
  ending_put e = rw e put_two

  pub ending_two : terminated ≡ true → length (ending_bytes terminated) ≡ 2
  unfolding ending_bytes
  ending_two e = rw e

pub ending_length : (terminated : Bool) → length (ending_bytes terminated) ≡ cond terminated 2 0
unfolding ending_bytes
ending_length true = refl
ending_length false = refl
