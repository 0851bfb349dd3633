use mathlib.Core.Path.{◌≡◌, ap}
use mathlib.Core.List.{◌∷◌}
use native.Mathlib.Omega.{arith}
use lib.ListN.{length, length-set}
use Rattle.integers.proofs.Buffers.{put_none, put_byte, then_put}
use Rattle.printed_value.specs.PrintedValue.{last_digits, behind_whole}
use Rattle.printed_value.proofs.LastDigits.{last_length}
use Rattle.printing.proofs.TextParts.{behind_none, behind_some}
use Rattle.printing.proofs.put_fraction.Goals as goal
use Rattle.printing.proofs.put_fraction.Goals.{Else-places-eq0}

pub returns-then-places-eq0 : goal.returns-then-places-eq0
returns-then-places-eq0 c = let a = c.args in rw (behind_none a.places a.fraction c.if-places-eq0.true) put_none

-- what is put where the number has places
point : (c : Else-places-eq0) → let a = c.before.before.args in behind_whole a.places a.fraction ≡ 0x2E ∷ last_digits a.places a.fraction
point c = let a = c.before.before.args in behind_some a.places a.fraction c.if-places-eq0.false

pub bounds-buffer-at : goal.bounds-buffer-at
bounds-buffer-at c = omega (arith, ap length (point (goal.at.bounds-buffer-at c).Else-places-eq0), c.requires)

pub put_last-requires : goal.put_last-requires
put_last-requires c =
    let a = c.args in
    simp length-set (omega (arith, ap length (point (goal.at.put_last-requires c).Else-places-eq0), last_length a.places a.fraction, c.requires))

pub returns : goal.returns
returns c = rw (point (goal.at.returns c).Else-places-eq0) (then_put put_byte c.put_last.ensures)
