-- 02, 2.7: the four datagrams of a restart, and the stretches that they part, on the list of the kinds handed out; and the session's count of the four.
use Rattle.std.specs.Prelude.{ℕ, suc, ◌+◌, ◌≤◌, ◌<◌, Bool, true, false, cond, List, [], ◌∷◌, ◌++◌, ◌⊎◌, ◌≡◌, eqb, length}
use Rattle.special.specs.declared.Kind.{Kind}
use Rattle.special.specs.declared.Kind.TheVariants.{Normal, PartNumber, SerialNumber, Configuration, BiasTrim, ExtendedError}

-- ---- on the list of kinds

-- the four, in order
abbrev pub four : List Kind
four = PartNumber ∷ SerialNumber ∷ Configuration ∷ BiasTrim ∷ []

-- a new stretch begins at a place: the four stand just before it, next to each other
pub record RestartAt (ks : List Kind) (place : ℕ) : Type 0 where
  pub before : List Kind
  pub behind : List Kind
  pub parted : ks ≡ before ++ (four ++ behind)
  pub end : place ≡ length before + 4

-- one stretch begins at `from` and goes on at least up to `to`: it begins with the list or with a restart, and no other one begins in between
pub record Stretch (ks : List Kind) (from to : ℕ) : Type 0 where
  pub some : from < to
  pub within : to ≤ length ks
  pub begins : (from ≡ 0) ⊎ RestartAt ks from
  pub none_between : (place : ℕ) → from < place → place < to → RestartAt ks place → ⊥

-- ---- by a count

-- how many of the four have just come, behind one more datagram: a part number datagram begins the order anew, one that is out of order, or of another
-- kind, ends it, and so does the fourth
abbrev pub count_next : ℕ → Kind → ℕ
count_next n Normal = 0
count_next n PartNumber = 1
count_next n SerialNumber = cond (eqb n 1) 2 0
count_next n Configuration = cond (eqb n 2) 3 0
count_next n BiasTrim = 0
count_next n ExtendedError = 0

-- whether it is the fourth
abbrev pub is_fourth : ℕ → Kind → Bool
is_fourth n Normal = false
is_fourth n PartNumber = false
is_fourth n SerialNumber = false
is_fourth n Configuration = false
is_fourth n BiasTrim = eqb n 3
is_fourth n ExtendedError = false

-- the count behind a list, from n on
unfoldable pub count_after : ℕ → List Kind → ℕ
count_after n [] = n
count_after n (k ∷ ks) = count_after (count_next n k) ks
