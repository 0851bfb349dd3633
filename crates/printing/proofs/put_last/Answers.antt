use Prim.Native.Nat.{ℕ, suc, ◌+◌, ◌-◌, ◌/◌, ◌%◌, ◌≤◌, ◌<◌}
use mathlib.Core.List.{List, [], ◌∷◌, ◌++◌}
use mathlib.Core.Path.{◌≡◌, refl, sym, ap, ◌∙◌}
use native.Mathlib.Omega.{arith}
use lib.ListN.{length, set}
use lib.Seq.{sets, set_comm}
use Rattle.integers.proofs.Buffers.{sets_append}
use Rattle.printed_value.specs.PrintedValue.{last_digits}
use Rattle.printed_value.proofs.LastDigits.{last_none, last_more, last_length}
use Rattle.printing.proofs.put_last.Goals as goal

-- a byte behind a text is put before it as well as after it
put_behind : (b : List ℕ) (i : ℕ) (text : List ℕ) (j x : ℕ) → i + length text ≤ j → sets (set b j x) i text ≡ set (sets b i text) j x
put_behind b i [] j x h = refl
put_behind b i (y ∷ text) j x h =
    ap (λ (l : List ℕ). sets l (suc i) text) (set_comm b j i x y (λ e. omega arith))
    ∙ put_behind (set b i y) (suc i) text j x (omega arith)

-- the last of the digits, put first
last_first : (b : List ℕ) (at p m : ℕ) → at < p → sets (set b (p - 1) (0x30 + m % 10)) at (last_digits (p - 1 - at) (m / 10)) ≡ sets b at (last_digits (p - at) m)
last_first b at p m h =
    let text = last_digits (p - 1 - at) (m / 10) in
    let long : at + length text ≡ p - 1 = omega (arith, last_length (p - 1 - at) (m / 10)) in
    let same : p - 1 - at ≡ p - at - 1 = omega arith in
    put_behind b at text (p - 1) (0x30 + m % 10) (omega arith)
    ∙ ap (λ (k : ℕ). set (sets b at text) k (0x30 + m % 10)) (sym long)
    ∙ sym (sets_append b at text ((0x30 + m % 10) ∷ []))
    ∙ ap (λ (k : ℕ). sets b at (last_digits k (m / 10) ++ (0x30 + m % 10) ∷ [])) same
    ∙ sym (ap (sets b at) (last_more (p - at) m (omega arith)))

pub loop-place-init : goal.loop-place-init
loop-place-init c = (omega arith, ap (λ (j : ℕ). sets c.args.buffer.now c.args.at (last_digits j c.args.n)) (omega arith))

pub loop-place-preserved : goal.loop-place-preserved
loop-place-preserved c =
    let l = c.loop-place in
    (omega arith, last_first l.buffer c.args.at l.place l.left c.loop-place-test.true ∙ l.invariant.1)

-- the digits written are compared with k, so that an edit of how many is refused by the number
pub returns : goal.returns
returns c =
    let l = c.loop-place in
    let a = c.args in
    record {
      place = omega (arith, last_length a.k a.n);
      bytes = sym (ap (sets l.buffer a.at) (last_none (l.place - a.at) l.left (omega arith)))
          ∙ l.invariant.1
          ∙ ap (λ (j : ℕ). sets a.buffer.now a.at (last_digits j a.n)) (omega arith);
    }
