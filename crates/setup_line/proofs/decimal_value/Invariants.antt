use Prim.Native.Nat.{◌+◌, ◌*◌, ◌^◌, ◌≤◌}
use mathlib.Core.Path.{◌≡◌}
use lib.ListN.{drop}
use Rattle.setup_line.specs.SetupLine.{decimal_from}
use Rattle.setup_line.proofs.decimal_value.Given as goal

abbrev pub invariant-loop-b : goal.invariant-loop-b
invariant-loop-b l = (l.number + 2 ≤ 2 * 10 ^ l.b-index) × (decimal_from l.number (drop l.b-index l.text) ≡ decimal_from 0 l.text)
