-- Bytes in an array that is longer than they are.
use Rattle.std.specs.Prelude.{ℕ, ◌+◌, ◌-◌, List, ◌++◌, ◌≡◌, length, replicate}
use Rattle.std.proofs.lemmas.List.Edits.{sets}

-- bytes with zeros behind them, n in all
abbrev pub padded : ℕ → List ℕ → List ℕ
padded n l = l ++ replicate (n - length l) 0

-- what a function ensures that writes a text into a buffer: `after` is `before` with the text at `at` and every other byte as it was, and `end` is the
-- place behind the text
pub record Put (before : List ℕ) (at : ℕ) (text after : List ℕ) (end : ℕ) : Type 0 where
  pub place : end ≡ at + length text
  pub bytes : after ≡ sets before at text
