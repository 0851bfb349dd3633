-- 01, The text line, 13: what it asks of the values of a line, clause by clause in 01's order, as facts and not as tests.
use Rattle.std.specs.Prelude.{ℕ, ◌^◌, ◌≤◌, ◌<◌, true, List, [], ◌≡◌, ℤ, pos, nat_abs, get_or}
use Rattle.integers.specs.Ranges.{in_reading}
use Rattle.motion.specs.Totals.{total_at}
use Rattle.motion.specs.Totals.{Totals}

pub record PassesThirteen (ordinal : ℕ) (readings : List (List ℤ)) (totals : Totals) : Type 0 where
  -- no reading is outside 24 bits
  pub fit : (group axis : ℕ) → group < 3 → axis < 3 → in_reading (get_or (get_or readings group []) axis (pos 0)) ≡ true
  -- no total is beyond 2^53 in size
  pub small : (group axis : ℕ) → group < 3 → axis < 3 → nat_abs (total_at totals group axis).steps ≤ 2 ^ 53
  -- the ordinal is not 0
  pub counted : ordinal ≡ 0 → ⊥
