-- More bytes kept behind those of a line, up to 513. Assumes nothing.
use Prim.Native.Nat.{ℕ, ◌+◌, ◌-◌, ◌≤◌, min}
use mathlib.Core.Path.{◌≡◌, sym, ap, ◌∙◌}
use mathlib.Core.List.{List, ◌++◌}
use native.Mathlib.Omega.{arith}
use borrow.Rule.Slice.PartMut.{put_mid, post_of}
use lib.ListN.{length, take, length-append, length-take}
use lib.Seq.{take_all, take-take, take-append-add, take-append-le, length-take-le}
use Rattle.stim_make.specs.MadeLines.{line_of}
use Rattle.stim_make.specs.declared.line.Line.{Line}

-- n bytes of s have room behind those of the line
module _ (l : Line) (s : List ℕ) (n : ℕ) (long : length l.bytes ≡ 513) (short : l.used ≤ 513) (room : n ≡ min (length s) (513 - l.used)) where
  own : length (line_of l) ≡ l.used
  own = length-take-le l.used l.bytes (omega (arith, long))

  first : take (513 - l.used) s ≡ take n s
  first =
      sym (take_all n (take (513 - l.used) s) (omega (arith, length-take (513 - l.used) s, room)))
      ∙ take-take n (513 - l.used) s (omega (arith, room))

  pub kept_size : l.used + n ≡ min (length (line_of l ++ s)) 513
  kept_size = omega (arith, length-append (line_of l) s, own, room)

  pub kept_bytes : (k : ℕ) {more : List ℕ} → more ≡ take n s → take (l.used + n) (put_mid l.used k l.bytes more) ≡ take 513 (line_of l ++ s)
  kept_bytes k {more} e =
      let whole : l.used + n ≡ length (line_of l) + n = omega (arith, own) in
      let most : length (line_of l) + (513 - l.used) ≡ 513 = omega (arith, own) in
      let some : length more ≡ n = ap length e ∙ length-take-le n s (omega (arith, room)) in
      ap (λ (m : ℕ). take m (put_mid l.used k l.bytes more)) whole
      ∙ take-append-add (line_of l) (more ++ post_of l.used k l.bytes) n
      ∙ ap (λ (t : List ℕ). line_of l ++ t)
      (take-append-le n more (post_of l.used k l.bytes) (omega (arith, some)) ∙ take_all n more (omega (arith, some)) ∙ e ∙ sym first)
      ∙ sym (take-append-add (line_of l) s (513 - l.used))
      ∙ ap (λ (m : ℕ). take m (line_of l ++ s)) most
