-- `motion::flagged_channels` meets its contract. Assumes nothing.
use Rattle.std.proofs.Common.{◌≡◌, ℕ, ◌+◌, ◌/◌, ◌%◌, refl, ap, ◌∙◌, arith}
use lib.Count.{ones, ones_in, ones_step}
use Rattle.motion.specs.Status.{flagged}
use Rattle.motion.proofs.flagged_channels.Goals as goal

none : ones 0 ≡ 0
unfolding ones ones_in
none = refl

-- the three digits of the low bits, one after the other
first : (s : ℕ) → s % 8 % 2 ≡ s / 1 % 2
first s = omega arith

second : (s : ℕ) → s % 8 / 2 % 2 ≡ s / 2 % 2
second s = omega arith

third : (s : ℕ) → s % 8 / 2 / 2 % 2 ≡ s / 4 % 2
third s = omega arith

gone : (s : ℕ) → s % 8 / 2 / 2 / 2 ≡ 0
gone s = omega arith

sum : (a b c a' b' c' o₀ o₁ o₂ o₃ : ℕ) → o₀ ≡ a + o₁ → o₁ ≡ b + o₂ → o₂ ≡ c + o₃ → o₃ ≡ 0 → a ≡ a' → b ≡ b' → c ≡ c' → o₀ ≡ a' + b' + c'
sum a b c a' b' c' o₀ o₁ o₂ o₃ e₀ e₁ e₂ e₃ p q r = omega arith

low : (s : ℕ) → ones (s % 8) ≡ s / 1 % 2 + s / 2 % 2 + s / 4 % 2
low s =
    sum _ _ _ _ _ _ _ _ _ _ (ones_step (s % 8)) (ones_step (s % 8 / 2)) (ones_step (s % 8 / 2 / 2)) (ap ones (gone s) ∙ none) (first s) (second s)
    (third s)

pub returns : goal.returns
unfolding flagged
returns c = low c.args.status
