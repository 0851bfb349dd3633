-- A line can be read back: parted at its commas it gives its 25 fields, and its only 0x0A is at its end.
use mathlib.Core.Path.{◌≡◌, refl, ap, ◌∙◌}
use mathlib.Core.Bool.{Bool, true, false, not, ◌&&◌}
use mathlib.Core.List.{List, [], ◌∷◌, ◌++◌}
use Prim.Native.Nat.{ℕ, suc, ◌+◌, ◌%◌, ◌<◌}
use native.Mathlib.Omega.{arith}
use borrow.Author.Tests.{ne_eqb}
use lib.Dec.{eqb}
use lib.IntN.{ℤ, pos, negsuc}
use lib.ListN.{length, get_or, replicate}
use Rattle.integers.proofs.Booleans.{and_split, and_true}
use Rattle.setup_line.specs.SetupLine.{fields_of}
use Rattle.gaps.specs.declared.Gap.{Gap}
use Rattle.gaps.specs.declared.Gap.TheVariants.{Missed, OffStep}
use Rattle.motion.specs.declared.Total.{Total}
use Rattle.motion.specs.Totals.{GroupTotals}
use Rattle.motion.specs.Totals.{Totals}
use Rattle.shown_line.specs.Decimal.{digits, decimal}
use Rattle.shown_line.specs.ShownLine.{shown_if, missed_field, total_field, group_fields, groups_fields, shown_fields, parted}
use Rattle.shown_line.specs.declared.Shown.{Shown}
use Rattle.shown_line.proofs.Digits.{digits_ind}

-- no byte of a text, and of some fields, is x
unfoldable pub free : ℕ → List ℕ → Bool
free x [] = true
free x (b ∷ t) = not (eqb b x) && free x t

abbrev AllFree : ℕ → List (List ℕ) → Type 0
AllFree x [] = Unit {0}
AllFree x (f ∷ fs) = (free x f ≡ true) × AllFree x fs

free_cons : (x b : ℕ) (t : List ℕ) → (b ≡ x → ⊥) → free x t ≡ true → free x (b ∷ t) ≡ true
unfolding free
free_cons x b t h e = rw (ne_eqb b x h, e)

free_append : (x : ℕ) (s t : List ℕ) → free x s ≡ true → free x t ≡ true → free x (s ++ t) ≡ true
unfolding free
free_append x [] t e f = f
free_append x (b ∷ s) t e f = let p = and_split (not (eqb b x)) (free x s) e in and_true p.0 (free_append x s t p.1 f)

-- ---- the fields are free of what is below `-`, so of comma and line end

module _ (x : ℕ) (h : x < 0x2D) where
  digits_free : (n : ℕ) → free x (digits n) ≡ true
  unfolding free
  digits_free =
      digits_ind (λ n ds. free x ds ≡ true) (λ n l. free_cons x (0x30 + n) [] (λ e. omega arith) refl)
      (λ n ds l e. free_append x ds ((0x30 + n % 10) ∷ []) e (free_cons x (0x30 + n % 10) [] (λ e. omega arith) refl))

  decimal_free : (z : ℤ) → free x (decimal z) ≡ true
  unfolding decimal
  decimal_free (pos n) = digits_free n
  decimal_free (negsuc n) = free_cons x 0x2D (digits (suc n)) (λ e. omega arith) (digits_free (suc n))

  shown_free : (shown : Bool) (t : List ℕ) → free x t ≡ true → free x (shown_if shown t) ≡ true
  unfolding free
  shown_free true t e = e
  shown_free false t e = refl

  missed_free : (gap : Gap) → free x (missed_field gap) ≡ true
  unfolding free
  missed_free (Missed count) = digits_free count.0
  missed_free OffStep = free_cons x 0x3F [] (λ e. omega arith) refl

  total_free : (kept : Bool) (t : Total) → free x (total_field kept t) ≡ true
  total_free kept t = shown_free (kept && t.begun) (decimal t.steps) (decimal_free t.steps)

  group_free : (carried kept : Bool) (row : List ℤ) (status : ℕ) (t : GroupTotals) (fs : List (List ℕ)) → AllFree x fs → AllFree x (group_fields carried kept row status t ++ fs)
  unfolding group_fields
  group_free carried kept row status t fs rest =
      let axis : (i : ℕ) → free x (shown_if carried (decimal (get_or row i (pos 0)))) ≡ true = λ i. shown_free carried (decimal (get_or row i (pos 0))) (decimal_free (get_or row i (pos 0))) in
      let total : (t : Total) → free x (total_field (carried && kept) t) ≡ true = total_free (carried && kept) in
      (axis 0, (axis 1, (axis 2, (shown_free carried (digits status) (digits_free status), (total t.x, (total t.y, (total t.z, rest)))))))

  groups_free : (carried kept : List Bool) (readings : List (List ℤ)) (statuses : List ℕ) (totals : Totals) → AllFree x (groups_fields carried kept readings statuses totals)
  unfolding groups_fields group_fields
  groups_free carried kept readings statuses totals =
      let accelerometer = group_fields (get_or carried 1 false) (get_or kept 1 false) (get_or readings 1 []) (get_or statuses 1 0) totals.accelerometer in
      let inclinometer = group_fields (get_or carried 2 false) (get_or kept 2 false) (get_or readings 2 []) (get_or statuses 2 0) totals.inclinometer in
      group_free (get_or carried 0 false) (get_or kept 0 false) (get_or readings 0 []) (get_or statuses 0 0) totals.gyro (accelerometer ++ inclinometer)
      (group_free (get_or carried 1 false) (get_or kept 1 false) (get_or readings 1 []) (get_or statuses 1 0) totals.accelerometer inclinometer
      (group_free (get_or carried 2 false) (get_or kept 2 false) (get_or readings 2 []) (get_or statuses 2 0) totals.inclinometer [] tt))

-- ---- parting

fields_end : (f : List ℕ) → free 0x2C f ≡ true → fields_of f ≡ f ∷ []
unfolding free fields_of
fields_end [] e = refl
fields_end (b ∷ f) e = by (eqb b 0x2C) refl e (fields_end f)
  where
    by : (z : Bool) → eqb b 0x2C ≡ z → (not z && free 0x2C f) ≡ true → (free 0x2C f ≡ true → fields_of f ≡ f ∷ []) → fields_of (b ∷ f) ≡ (b ∷ f) ∷ []
    by true q e next = let n : ◌≡◌ {A = ℕ} 0 1 = cc in absurd (omega arith)
    by false q e next = rw (q, next e)

fields_next : (f rest : List ℕ) → free 0x2C f ≡ true → fields_of (f ++ 0x2C ∷ rest) ≡ f ∷ fields_of rest
unfolding free fields_of
fields_next [] rest e = refl
fields_next (b ∷ f) rest e = by (eqb b 0x2C) refl e (fields_next f rest)
  where
    by : (z : Bool) → eqb b 0x2C ≡ z → (not z && free 0x2C f) ≡ true → (free 0x2C f ≡ true → fields_of (f ++ 0x2C ∷ rest) ≡ f ∷ fields_of rest) → fields_of (b ∷ f ++ 0x2C ∷ rest) ≡ (b ∷ f) ∷ fields_of rest
    by true q e next = let n : ◌≡◌ {A = ℕ} 0 1 = cc in absurd (omega arith)
    by false q e next = rw (q, next e)

pub fields_parted : (f : List ℕ) (fs : List (List ℕ)) → AllFree 0x2C (f ∷ fs) → fields_of (parted (f ∷ fs)) ≡ f ∷ fs
unfolding parted
fields_parted f [] a = fields_end f a.0
fields_parted f (g ∷ gs) a = fields_next f (parted (g ∷ gs)) a.0 ∙ ap (λ l. f ∷ l) (fields_parted g gs a.1)

pub parted_free : (x : ℕ) (f : List ℕ) (fs : List (List ℕ)) → (0x2C ≡ x → ⊥) → AllFree x (f ∷ fs) → free x (parted (f ∷ fs)) ≡ true
unfolding parted
parted_free x f [] h a = a.0
parted_free x f (g ∷ gs) h a = free_append x f (0x2C ∷ parted (g ∷ gs)) a.0 (free_cons x 0x2C (parted (g ∷ gs)) h (parted_free x g gs h a.1))

-- ---- the line

-- fields of a group not carried are empty
pub uncarried_empty : (kept : Bool) (row : List ℤ) (status : ℕ) (t : GroupTotals) → group_fields false kept row status t ≡ replicate 7 []
unfolding group_fields
uncarried_empty kept row status t = refl

module _ (shown : Shown) (ordinal counter latency : ℕ) (gap : Gap) (readings : List (List ℤ)) (statuses : List ℕ) (totals : Totals) where
  abbrev fields : List (List ℕ)
  fields = shown_fields shown ordinal counter latency gap readings statuses totals

  all_free : (x : ℕ) → x < 0x2D → AllFree x fields
  unfolding shown_fields
  all_free x h = (
    digits_free x h ordinal,
    (
      digits_free x h counter,
      (
        digits_free x h latency,
        (
          missed_free x h gap,
          groups_free x h shown.carried shown.kept readings statuses totals,
        ),
      ),
    ),
  )

  -- 25 fields
  pub line_count : length fields ≡ 25
  unfolding shown_fields groups_fields group_fields
  line_count = refl

  -- which the commas part
  pub line_fields : fields_of (parted fields) ≡ fields
  unfolding shown_fields
  line_fields = fields_parted (digits ordinal) _ (all_free 0x2C (omega arith))

  -- with no 0x0A before the end
  pub line_end_lem : free 0x0A (parted fields) ≡ true
  unfolding shown_fields
  line_end_lem = parted_free 0x0A (digits ordinal) _ (λ e. omega arith) (all_free 0x0A (omega arith))
