use Prim.Native.Nat.{ℕ, ◌+◌, ◌≤◌, ◌<◌}
use native.Mathlib.Omega.{arith}
use native.Mathlib.Decide.{dec_le}
use mathlib.Core.Logic.{◌⊎◌, inl, inr, ⊎_elim}
use mathlib.Core.Option.{none}
use mathlib.Core.Path.{◌≡◌, refl, sym, ap, subst}
use Rattle.special.specs.Special.{entry_at, kind_by, kind_at}
use Rattle.special.specs.declared.Kind.TheVariants.{Configuration, BiasTrim, ExtendedError}
use Rattle.special.proofs.Specials.{none_found}
use Rattle.special.proofs.kind_of.Goals as goal

-- what holds at two numbers in a row holds from the first to the second
two_from : (P : ℕ → Type 0) (k : ℕ) → P k → P (k + 1) → (i : ℕ) → k ≤ i → i < k + 2 → P i
two_from P k a b i l h = by (dec_le i k)
  where
    by : Dec (i ≤ k) → P i
    by (yes e) = let e : k ≡ i = omega arith in subst P e a
    by (no n) = let e : k + 1 ≡ i = omega arith in subst P e b

-- a byte outside the arms begins none
unlisted : (i : ℕ) → ((i ≡ 0xB1) ⊎ (i ≡ 0xB3) → ⊥) → ((i ≡ 0xB5) ⊎ (i ≡ 0xB7) → ⊥) → (0xBC ≤ i → i < 0xC0 → ⊥) → (0xD1 ≤ i → i < 0xD3 → ⊥)
    → entry_at i ≡ none
unlisted i a b c d =
    none_found i
    (λ e. a (inl e))
    (λ e. a (inr e))
    (λ e. b (inl e))
    (λ e. b (inr e))
    (λ e. c (omega arith) (omega arith))
    (λ e. c (omega arith) (omega arith))
    (λ e. d (omega arith) (omega arith))
    (λ e. d (omega arith) (omega arith))
    (λ e. c (omega arith) (omega arith))
    (λ e. c (omega arith) (omega arith))

pub returns-in-177 : goal.returns-in-177
unfolding kind_at entry_at
returns-in-177 c = ⊎_elim (λ e. sym (ap kind_at e)) (λ e. sym (ap kind_at e)) c.in-177.is

pub returns-in-181 : goal.returns-in-181
unfolding kind_at entry_at
returns-in-181 c = ⊎_elim (λ e. sym (ap kind_at e)) (λ e. sym (ap kind_at e)) c.in-181.is

pub returns-in-188 : goal.returns-in-188
unfolding kind_at entry_at
returns-in-188 c =
    let byte = c.args.byte in
    two_from (λ i. Configuration ≡ kind_at i) 0xBC refl refl byte (omega arith) (omega arith)

pub returns-in-190 : goal.returns-in-190
unfolding kind_at entry_at
returns-in-190 c =
    let byte = c.args.byte in
    two_from (λ i. ExtendedError ≡ kind_at i) 0xBE refl refl byte (omega arith) (omega arith)

pub returns-in-209 : goal.returns-in-209
unfolding kind_at entry_at
returns-in-209 c =
    let byte = c.args.byte in
    two_from (λ i. BiasTrim ≡ kind_at i) 0xD1 refl refl byte (omega arith) (omega arith)

pub returns-in_default : goal.returns-in_default
unfolding kind_at
returns-in_default c = sym (ap kind_by (unlisted c.args.byte (omega arith) (omega arith) (omega arith) (omega arith)))

pub returns-in_default-2 : goal.returns-in_default-2
unfolding kind_at
returns-in_default-2 c = sym (ap kind_by (unlisted c.args.byte (omega arith) (omega arith) (omega arith) (omega arith)))

pub returns-in_default-3 : goal.returns-in_default-3
unfolding kind_at
returns-in_default-3 c = sym (ap kind_by (unlisted c.args.byte (omega arith) (omega arith) (omega arith) (omega arith)))
