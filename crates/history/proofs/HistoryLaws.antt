-- Laws of what a session keeps of the datagrams handed out. Assumes nothing.
use Prim.Native.Nat.{ℕ, ◌<◌}
use mathlib.Core.Bool.{Bool}
use mathlib.Core.Path.{◌≡◌}
use mathlib.Core.List.{List}
use borrow.Author.Tests.{lt-leb}
use lib.IntN.{ℤ}
use Rattle.setup.specs.Setup.{hertz}
use Rattle.setup.specs.declared.Rate.{Rate}
use Rattle.history.specs.declared.History.{History}
use Rattle.history.specs.History.{awaits_first, history_next, greatest_count, advanced}

-- below the greatest count of 64 bits a history moves on by the rules
pub advanced_next :
    (rate : Rate) (kept : List Bool) (h : History) (readings : List (List ℤ)) (statuses : List ℕ) (counter : ℕ) → h.datagrams.0 < greatest_count
    → advanced rate kept h readings statuses counter ≡ history_next (hertz rate) kept (awaits_first h) h readings statuses counter
unfolding advanced
advanced_next rate kept h readings statuses counter l = rw (lt-leb greatest_count h.datagrams.0 l)
