-- Laws of the rows: the table's, the parts that a row has, and which groups are carried.
use Prim.Native.Nat.{ℕ, zero, suc, ◌<◌}
use native.Mathlib.Omega.{arith}
use mathlib.Core.Bool.{Bool, true, false}
use mathlib.Core.List.{List, [], ◌∷◌}
use mathlib.Core.Option.{some}
use mathlib.Core.Path.{◌≡◌, refl, ap, ◌∙◌}
use borrow.Author.Tests.{ne_eqb}
use lib.ListN.{length, get_or}
use Rattle.setup.specs.Layout.{gyro, accelerometer, inclinometer, parts_of, row_at, parts_in, parts_at, carries, groups_of, groups_carried}
use Rattle.setup.specs.Layout.{carrying, Entry, entry, table, row_in, listing_row, listing_number}
use Rattle.setup.specs.declared.Row.{Row}
use Rattle.std.specs.Prelude.{Some}

-- what holds of the sixteen rows holds of every row
abbrev pub EveryRow : (Row → Type 0) → Type 0
EveryRow P =
    let at : Bool → Bool → Bool → Bool → Type 0 = λ a i t u. P (record { acceleration = a; inclination = i; temperatures = t; aux = u }) in
    let four : Bool → Bool → Type 0 = λ t u. at false false t u × at true false t u × at false true t u × at true true t u in
    four false false × four true false × four false true × four true true

pub every_row : (P : Row → Type 0) → EveryRow P → (r : Row) → P r
every_row P h r = by r.acceleration r.inclination r.temperatures r.aux
  where
    by : (a i t u : Bool) → P (record { acceleration = a; inclination = i; temperatures = t; aux = u })
    by false false false false = h.0.0
    by true false false false = h.0.1
    by false true false false = h.0.2
    by true true false false = h.0.3
    by false false true false = h.1.0
    by true false true false = h.1.1
    by false true true false = h.1.2
    by true true true false = h.1.3
    by false false false true = h.2.0
    by true false false true = h.2.1
    by false true false true = h.2.2
    by true true false true = h.2.3
    by false false true true = h.3.0
    by true false true true = h.3.1
    by false true true true = h.3.2
    by true true true true = h.3.3

-- the parts of an identifier are those of its row
pub row_parts : (i : ℕ) → parts_at i ≡ parts_in (row_at i)
unfolding row_at parts_at
row_parts i = refl

pub listed_parts : (i : ℕ) {r : Row} → row_at i ≡ Some r → parts_at i ≡ parts_of r
listed_parts i e = row_parts i ∙ ap parts_in e

-- and so are its groups
abbrev Carrying : Row → Type 0
Carrying r = carries (parts_of r) gyro ∷ carries (parts_of r) accelerometer ∷ carries (parts_of r) inclinometer ∷ [] ≡ groups_of r

row_groups : (r : Row) → Carrying r
unfolding parts_of
row_groups = every_row Carrying ((refl, refl, refl, refl), (refl, refl, refl, refl), (refl, refl, refl, refl), (refl, refl, refl, refl))

pub listed_groups : (i : ℕ) {r : Row} → row_at i ≡ Some r → groups_carried i ≡ groups_of r
unfolding groups_carried
listed_groups i {r} e = rw (listed_parts i e) (row_groups r)

-- ---- what the table says of an identifier

-- of one that has no line the number 5
unlisted_in : (es : List Entry) (i : ℕ) → ((k : ℕ) → k < length es → i ≡ (get_or es k (entry 0 [] 0)).identifier → ⊥) → listing_number (row_in es i) ≡ some 5
unlisted_in [] i h = refl
unlisted_in (e ∷ es) i h = rw (ne_eqb i e.identifier (h 0 (omega arith))) (unlisted_in es i (λ k l. h (suc k) (omega arith)))

pub unlisted_five : (i : ℕ) → ((k : ℕ) → k < length table → i ≡ (get_or table k (entry 0 [] 0)).identifier → ⊥) → listing_number (row_at i) ≡ some 5
unfolding row_at
unlisted_five i h = unlisted_in table i h

-- of one that has a line its row: each of the sixteen
abbrev RowsOf : List Entry → Type 0
RowsOf [] = Unit {0}
RowsOf (e ∷ es) = (listing_row (row_at e.identifier) ≡ some (carrying e.carries)) × RowsOf es

all_rows : RowsOf table
unfolding row_at
all_rows = (refl, (refl, (refl, (refl, (refl, (refl, (refl, (refl, (refl, (refl, (refl, (refl, (refl, (refl, (refl, (refl, tt))))))))))))))))

row_in_lem : (es : List Entry) → RowsOf es → (k : ℕ) → k < length es
    → listing_row (row_at (get_or es k (entry 0 [] 0)).identifier) ≡ some (carrying (get_or es k (entry 0 [] 0)).carries)
row_in_lem [] h k l = absurd (omega arith)
row_in_lem (e ∷ es) h zero l = h.0
row_in_lem (e ∷ es) h (suc k) l = row_in_lem es h.1 k (omega arith)

pub listed_row_at : (k : ℕ) → k < length table
    → listing_row (row_at (get_or table k (entry 0 [] 0)).identifier) ≡ some (carrying (get_or table k (entry 0 [] 0)).carries)
listed_row_at = row_in_lem table all_rows
