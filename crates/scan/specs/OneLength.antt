-- What holds only where all datagrams have one identifier and one length, as in the base; request 2.7 ends it, and with it this file.
-- Assumes nothing.
use Rattle.std.specs.Prelude.{ℕ, ◌<◌, ◌≡◌, Bool, true, cond, ◌&&◌, List, [], ◌∷◌, eqb, ltb, length}
use Rattle.scan.specs.Scan.{waits, hands, Undecided}
use Rattle.scan.specs.Rules.{Limits, Rules, verdict}

module _ (identifier size : ℕ) where
  -- a datagram begins with the identifier and with no other byte
  abbrev pub one_candidate : ℕ → ℕ
  one_candidate b = cond (eqb b identifier) size 0

  -- Held bytes are none, or begin with the identifier and number less than the length (01, The scan)
  unfoldable pub held_rule : List ℕ → Bool
  held_rule [] = true
  held_rule (b ∷ u) = eqb b identifier && ltb (length (b ∷ u)) size

  -- the rules of such datagrams
  abbrev pub one_length : (List ℕ → Bool) → Limits → Rules
  one_length acceptable L =
      record { candidate = one_candidate; acceptable = acceptable; may_hold = held_rule; greatest = size; limits = L }

-- A datagram is longer than any bytes that the scan waits on, so it is handed out as its last byte comes; and bytes held are undecided
pub record Prompt (R : Rules) : Type 0 where
  pub longer : (u v : List ℕ) (n : ℕ) → verdict R u ≡ waits → verdict R v ≡ hands n → length u < n
  pub undecided : (u : List ℕ) → R.may_hold u ≡ true → Undecided (verdict R) u
