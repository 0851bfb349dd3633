use Prim.Native.Nat.{ℕ}
use Rattle.integers.proofs.Signed.{kept}
use Rattle.rehearsal.proofs.Nearest.{negative_low, negative_high, not_held}
use Rattle.rehearsal.specs.RehearsalLine.{nearest}
use Rattle.std.proofs.Common.{rules}
use Rattle.std.specs.Prelude.{Result, Ok, Err}
use Rattle.std.specs.Result.{OkIff, MatchResult}
use lib.IntN.{ℤ, pos, negsuc, neg_ℤ}
use mathlib.Core.Path.{◌≡◌, sym, ap, ◌∙◌}
use mir.Syntax.{w32}
use mir.Val.{SFits}
use Rattle.rehearsal.proofs.nearest_negative.Goals as goal

-- a size that is held, turned round, or the least number
held : {E : Type 0} {P : ℤ → Type 0} (n : ℕ) (z : ℤ) (tried : Result ℤ E) → ((x : ℤ) → P x → SFits w32 (pos n) → x ≡ pos n → z ≡ neg_ℤ x) → OkIff tried (SFits w32 (pos n)) (pos n) → MatchResult tried P (λ e. z ≡ negsuc 2147483647) → z ≡ nearest (neg_ℤ (pos n))
held n z (Ok x) turns t p = turns x p t.0 t.1 ∙ ap neg_ℤ t.1 ∙ sym (negative_low n t.0.sfits)
held n z (Err e) turns t p = p ∙ sym (negative_high n (not_held n t))

pub returns : goal.returns
returns c = kept w32 c.map_or.type_inv (held c.args.size c.map_or.result c.try_from.result (λ x p f e. search rules) c.try_from.ensures c.map_or.ensures)
