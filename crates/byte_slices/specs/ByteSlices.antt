-- A helper of proofs, no rule of 01: what copying gives, and where a byte stands first among others.
use Rattle.std.specs.Prelude.{ℕ, List, [], ◌∷◌, ◌++◌, Bool, true, false, nat_eq, suc, length, take, drop}

-- a target into whose front a source was copied: as much of the source as it has room for, and behind that what stood there
abbrev pub copied : List ℕ → List ℕ → List ℕ
copied source target = take (length target) source ++ drop (length source) target

-- the place of a byte, told by whether the first is the one sought, and by the place among the rest
unfoldable pub index_after : Bool → ℕ → ℕ
index_after true n = 0
index_after false n = suc n

-- the place of the first byte b, or their number where none is b
unfoldable pub index_of : ℕ → List ℕ → ℕ
index_of b [] = 0
index_of b (x ∷ s) = index_after (nat_eq x b) (index_of b s)
