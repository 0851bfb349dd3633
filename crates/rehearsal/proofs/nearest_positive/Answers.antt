use Prim.Native.Nat.{ℕ}
use Rattle.integers.proofs.Signed.{kept}
use Rattle.rehearsal.proofs.Nearest.{positive_low, positive_high, not_held}
use Rattle.rehearsal.specs.RehearsalLine.{nearest}
use Rattle.std.specs.Prelude.{Result, Ok, Err}
use Rattle.std.specs.Result.{OkIff, result_unwrap_or}
use lib.IntN.{ℤ, pos}
use mathlib.Core.Path.{◌≡◌, sym, ◌∙◌}
use mir.Syntax.{w32}
use mir.Val.{SFits}
use Rattle.rehearsal.proofs.nearest_positive.Goals as goal

-- a size that is held, or the greatest number
held : {E : Type 0} (n : ℕ) (tried : Result ℤ E) → OkIff tried (SFits w32 (pos n)) (pos n) → result_unwrap_or tried (pos 2147483647) ≡ nearest (pos n)
held n (Ok z) t = t.1 ∙ sym (positive_low n t.0.sfits)
held n (Err e) t = sym (positive_high n (not_held n t))

pub returns : goal.returns
returns c = kept w32 c.unwrap_or.type_inv (c.unwrap_or.ensures ∙ held c.args.size c.try_from.result c.try_from.ensures)
