-- Laws of the layouts: 01's byte counts, lengths from 18 to 65, and every part before the check.
use Prim.Native.Nat.{ℕ, suc, ◌+◌, ◌≤◌}
use native.Mathlib.Omega.{arith}
use mathlib.Core.Bool.{Bool, true, false, ◌&&◌, ◌||◌, cond}
use mathlib.Core.List.{List, [], ◌∷◌, ◌++◌, map}
use mathlib.Core.Path.{◌≡◌, refl, sym, ap, ◌∙◌}
use lib.Dec.{eqb, ltb, leb}
use lib.ListN.{get_or}
use borrow.Author.Tests.{eqb-true, lt-ltb}
use Rattle.crc.specs.Check.{stim300}
use Rattle.setup.specs.Layout.{Part, identifier, gyro, accelerometer, inclinometer, gyro_temperatures, accelerometer_temperatures}
use Rattle.setup.specs.Layout.{inclinometer_temperatures, aux, counter, latency, size, bytes, only, group_parts, temperature_parts, parts_of}
use Rattle.setup.specs.Layout.{layout_of, length_in, Entry, table, R, has, carrying, place, carries, offset, placed}
use Rattle.setup.specs.declared.Row.{Row}
use Rattle.setup.proofs.Rows.{every_row}

-- the parts of each line of the table add up to the bytes before the check that 01 gives it
abbrev pub EachEntry : (Entry → Type 0) → List Entry → Type 0
EachEntry P [] = Unit {0}
EachEntry P (e ∷ es) = P e × EachEntry P es

pub table_adds_up : EachEntry (λ e. bytes (parts_of (carrying e.carries)) ≡ e.before) table
unfolding parts_of
table_adds_up = (refl, (refl, (refl, (refl, (refl, (refl, (refl, (refl, (refl, (refl, (refl, (refl, (refl, (refl, (refl, (refl, tt))))))))))))))))

-- and each has R, as every row has the gyro group
pub table_has_rate : EachEntry (λ e. has e.carries R ≡ true) table
table_has_rate = (refl, (refl, (refl, (refl, (refl, (refl, (refl, (refl, (refl, (refl, (refl, (refl, (refl, (refl, (refl, (refl, tt))))))))))))))))

-- the parts of a row stand in 01's order
abbrev rising : ℕ → List ℕ → Bool
rising low [] = true
rising low (n ∷ ns) = leb low n && rising (suc n) ns

abbrev InOrder : Row → Type 0
InOrder r = rising 0 (map place (parts_of r)) ≡ true

pub parts_in_order : (r : Row) → InOrder r
unfolding parts_of
parts_in_order = every_row InOrder ((refl, refl, refl, refl), (refl, refl, refl, refl), (refl, refl, refl, refl), (refl, refl, refl, refl))

-- a carried part ends at or before the end of the parts
within_by : (b r : Bool) (n m k o : ℕ) → (b || r) ≡ true → (b ≡ true → n ≤ m) → (r ≡ true → o + n ≤ k) → cond b 0 (m + o) + n ≤ m + k
within_by true r n m k o e f g = let h : n ≤ m = f refl in omega arith
within_by false r n m k o e f g = let h : o + n ≤ k = g e in omega arith

-- the parts in 01's order: a part's number is its place here, so that two parts with one number are the same
abbrev in_order : List Part
in_order =
    identifier ∷ gyro ∷ accelerometer ∷ inclinometer ∷ gyro_temperatures ∷ accelerometer_temperatures ∷ inclinometer_temperatures ∷
    aux ∷ counter ∷ latency ∷ []

numbered : (p : Part) → get_or in_order (place p) identifier ≡ p
numbered identifier = refl
numbered gyro = refl
numbered accelerometer = refl
numbered inclinometer = refl
numbered gyro_temperatures = refl
numbered accelerometer_temperatures = refl
numbered inclinometer_temperatures = refl
numbered aux = refl
numbered counter = refl
numbered latency = refl

pub same_part : (p q : Part) → place p ≡ place q → p ≡ q
same_part p q e = sym (numbered p) ∙ ap (λ n. get_or in_order n identifier) e ∙ numbered q

same_size : (p q : Part) → eqb (place p) (place q) ≡ true → size p ≤ size q
same_size p q e = let s : size p ≡ size q = ap size (same_part p q (eqb-true (place p) (place q) e)) in omega arith

part_within : (ps : List Part) (p : Part) → carries ps p ≡ true → offset ps p + size p ≤ bytes ps
part_within [] p e = let z : ◌≡◌ {A = ℕ} 0 1 = cc in absurd (omega arith)
part_within (q ∷ qs) p e =
    within_by (eqb (place p) (place q)) (carries qs p) (size p) (size q) (bytes qs) (offset qs p) e (same_size p q) (part_within qs p)

-- 14 to 59 bytes stand before the check
abbrev Short : Row → Type 0
Short r = (14 ≤ bytes (parts_of r)) × (bytes (parts_of r) ≤ 59)

pub before_range : (r : Row) → (14 ≤ bytes (parts_of r)) × (bytes (parts_of r) ≤ 59)
unfolding parts_of
before_range = every_row Short (omega arith)

-- the length is theirs, 4 for the check and 2 for the ending
pub length_parts : (r : Row) (t : Bool) → length_in (layout_of r t) ≡ bytes (parts_of r) + 4 + cond t 2 0
unfolding stim300
length_parts r true = refl
length_parts r false = refl

pub length_range : (r : Row) (t : Bool) → (18 ≤ length_in (layout_of r t)) × (length_in (layout_of r t) ≤ 65)
length_range r true = omega (arith, length_parts r true, before_range r)
length_range r false = omega (arith, length_parts r false, before_range r)

-- every part that is carried ends before the check
pub part_before_check : (r : Row) (p : Part) → carries (parts_of r) p ≡ true → placed (parts_of r) p + size p ≤ bytes (parts_of r)
part_before_check r p c =
    let w : offset (parts_of r) p + size p ≤ bytes (parts_of r) = part_within (parts_of r) p c in
    let a : placed (parts_of r) p ≡ offset (parts_of r) p = ap (λ (t : Bool). cond t (offset (parts_of r) p) 0) c in
    omega arith

-- a part behind the identifier is carried just where its place isn't 0
above : (c : Bool) (n : ℕ) → ltb 0 (cond c (1 + n) 0) ≡ c
above true n = lt-ltb 0 (1 + n) (omega arith)
above false n = refl

behind : (ps : List Part) (p : Part) → eqb (place p) 0 ≡ false → ltb 0 (placed (identifier ∷ ps) p) ≡ carries (identifier ∷ ps) p
behind ps p e = rw e (above (carries ps p) (offset ps p))

pub carried_place : (r : Row) (p : Part) → eqb (place p) 0 ≡ false → ltb 0 (placed (parts_of r) p) ≡ carries (parts_of r) p
unfolding parts_of
carried_place r p e = behind (group_parts r ++ temperature_parts r ++ only r.aux (aux ∷ []) ++ counter ∷ latency ∷ []) p e
