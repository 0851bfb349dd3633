use Prim.Native.Nat.{◌-◌, ◌≤◌}
use mathlib.Core.Path.{◌≡◌}
use lib.Seq.{sets}
use Rattle.printed_value.specs.PrintedValue.{last_digits}
use Rattle.printing.proofs.put_last.Given as goal

-- the digits in front of a place, put there too, make all of it
abbrev pub invariant-loop-place : goal.invariant-loop-place
invariant-loop-place l = (l.at ≤ l.place) × (sets l.buffer l.at (last_digits (l.place - l.at) l.left) ≡ sets l.fn.buffer l.at (last_digits l.k l.n))
