use Prim.Native.Nat.{◌≤◌, min}
use Rattle.setup_line.specs.SetupLine.{decimal_from}
use lib.ListN.{drop}
use mathlib.Core.Path.{◌≡◌}
use Rattle.rehearsal.proofs.magnitude_written.Given as goal

abbrev pub invariant-loop-b : goal.invariant-loop-b
invariant-loop-b l = (l.number ≤ 4294967296) × (min (decimal_from l.number (drop l.b-index l.text)) 4294967296 ≡ min (decimal_from 0 l.text) 4294967296)
