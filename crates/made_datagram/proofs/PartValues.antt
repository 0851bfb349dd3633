-- The values of a part beside its fields: values in their widths are read as themselves, and fields read as values are written as themselves.
use Prim.Native.Nat.{ℕ, suc, ◌+◌, ◌<◌}
use native.Mathlib.Omega.{arith}
use mathlib.Core.Bool.{Bool, true, false, not, cond}
use mathlib.Core.List.{List, [], ◌∷◌, map}
use mathlib.Core.Path.{◌≡◌, refl, sym, ap, ap₂, subst, ◌∙◌}
use lib.Dec.{eqb}
use lib.IntN.{ℤ, pos}
use lib.ListN.{length}
use borrow.Author.Tests.{not-false}
use Rattle.integers.specs.Bytes.{AllBytes, big_endian, twos_complement, signed_bytes, Sign, signed, unsigned, value_of}
use Rattle.integers.specs.Ranges.{is_zero, fits}
use Rattle.integers.proofs.Booleans.{or_split}
use Rattle.integers.proofs.Ranges.{is_zero_true}
use Rattle.integers.proofs.Values.{value_bytes_length, value_read, value_fits, value_again}
use Rattle.setup.specs.Layout.{Part, identifier, gyro, accelerometer, inclinometer, gyro_temperatures, accelerometer_temperatures}
use Rattle.setup.specs.Layout.{inclinometer_temperatures, aux, counter, latency, widths, bytes, place, carries, offset}
use Rattle.wire.specs.Fields.{cut, fields_of_part, axes, status, signed_field, unsigned_field, contents}
use Rattle.wire.proofs.FieldPlaces.{window_length, window_bytes}
use Rattle.made_datagram.specs.declared.Values.{Values}
use Rattle.made_datagram.proofs.InTurn.{in_turn_length}
use Rattle.made_datagram.specs.Making.{axes_and_status, given, values_read, fields_for, parts_with, signs, any_outside, any_not_zero, part_outside}

-- ---- lists of values

-- fields read by their signs
abbrev pub read_as : List Sign → List (List ℕ) → List ℤ
read_as [] fs = []
read_as (s ∷ ss) [] = []
read_as (s ∷ ss) (f ∷ fs) = value_of s f ∷ read_as ss fs

-- a 0 for each field
abbrev pub zeros : List Sign → List ℤ
zeros [] = []
zeros (s ∷ ss) = pos 0 ∷ zeros ss

-- no width is 0
abbrev AllWide : List ℕ → Type 0
AllWide [] = Unit {0}
AllWide (w ∷ ws) = (0 < w) × AllWide ws

-- as many signs and widths as values
abbrev Alike : List Sign → List ℕ → List ℤ → Type 0
Alike ss ws zs = (length ss ≡ length zs) × (length ws ≡ length zs)

abbrev AllFields : List (List ℕ) → Type 0
AllFields [] = Unit {0}
AllFields (f ∷ fs) = AllBytes f × AllFields fs

fields_wide : (ws : List ℕ) (zs : List ℤ) → length ws ≡ length zs → map length (fields_for ws zs) ≡ ws
fields_wide [] zs e = refl
fields_wide (w ∷ ws) [] e = absurd (omega arith)
fields_wide (w ∷ ws) (z ∷ zs) e = ap₂ ◌∷◌ (value_bytes_length w z) (fields_wide ws zs (omega arith))

fields_back : (ss : List Sign) (ws : List ℕ) (zs : List ℤ) → AllWide ws → Alike ss ws zs → any_outside ss ws zs ≡ false → read_as ss (fields_for ws zs) ≡ zs
fields_back [] ws [] h l e = refl
fields_back [] ws (z ∷ zs) h l e = absurd (omega arith)
fields_back (s ∷ ss) [] [] h l e = absurd (omega arith)
fields_back (s ∷ ss) [] (z ∷ zs) h l e = absurd (omega arith)
fields_back (s ∷ ss) (w ∷ ws) [] h l e = absurd (omega arith)
fields_back (s ∷ ss) (w ∷ ws) (z ∷ zs) h l e =
    let p = or_split (not (fits s w z)) (any_outside ss ws zs) e in
    ap₂ ◌∷◌ (value_read s w z h.0 (not-false (fits s w z) p.0)) (fields_back ss ws zs h.1 (omega arith, omega arith) p.1)

-- fields of bytes, with these widths
fields_again : (ss : List Sign) (fs : List (List ℕ)) → length ss ≡ length fs → AllFields fs → fields_for (map length fs) (read_as ss fs) ≡ fs
fields_again ss [] l h = refl
fields_again [] (f ∷ fs) l h = absurd (omega arith)
fields_again (s ∷ ss) (f ∷ fs) l h = ap₂ ◌∷◌ (value_again s f h.0) (fields_again ss fs (omega arith) h.1)

fields_fit : (ss : List Sign) (fs : List (List ℕ)) → AllWide (map length fs) → AllFields fs → any_outside ss (map length fs) (read_as ss fs) ≡ false
fields_fit [] fs w h = refl
fields_fit (s ∷ ss) [] w h = refl
fields_fit (s ∷ ss) (f ∷ fs) w h = rw (value_fits s f h.0 w.0) (fields_fit ss fs w.1 h.1)

none_zero : (ss : List Sign) (zs : List ℤ) → length ss ≡ length zs → any_not_zero zs ≡ false → zs ≡ zeros ss
none_zero [] [] l e = refl
none_zero [] (z ∷ zs) l e = absurd (omega arith)
none_zero (s ∷ ss) [] l e = absurd (omega arith)
none_zero (s ∷ ss) (z ∷ zs) l e =
    let p = or_split (not (is_zero z)) (any_not_zero zs) e in
    ap₂ ◌∷◌ (is_zero_true z (not-false (is_zero z) p.0)) (none_zero ss zs (omega arith) p.1)

zeros_none : (ss : List Sign) → any_not_zero (zeros ss) ≡ false
zeros_none [] = refl
zeros_none (s ∷ ss) = zeros_none ss

-- ---- parts

part_wide : (p : Part) → AllWide (widths p)
part_wide identifier = (omega arith, tt)
part_wide gyro = (omega arith, (omega arith, (omega arith, (omega arith, tt))))
part_wide accelerometer = (omega arith, (omega arith, (omega arith, (omega arith, tt))))
part_wide inclinometer = (omega arith, (omega arith, (omega arith, (omega arith, tt))))
part_wide gyro_temperatures = (omega arith, (omega arith, (omega arith, (omega arith, tt))))
part_wide accelerometer_temperatures = (omega arith, (omega arith, (omega arith, (omega arith, tt))))
part_wide inclinometer_temperatures = (omega arith, (omega arith, (omega arith, (omega arith, tt))))
part_wide aux = (omega arith, (omega arith, tt))
part_wide counter = (omega arith, tt)
part_wide latency = (omega arith, tt)

-- a sign for each width
signs_widths : (p : Part) → length (signs p) ≡ length (widths p)
signs_widths identifier = refl
signs_widths gyro = refl
signs_widths accelerometer = refl
signs_widths inclinometer = refl
signs_widths gyro_temperatures = refl
signs_widths accelerometer_temperatures = refl
signs_widths inclinometer_temperatures = refl
signs_widths aux = refl
signs_widths counter = refl
signs_widths latency = refl

-- and a value
pub given_length : (i : ℕ) (readings : List (List ℤ)) (v : Values) (p : Part) → length (given i readings v p) ≡ length (widths p)
unfolding given
given_length i readings v identifier = refl
given_length i readings v gyro = refl
given_length i readings v accelerometer = refl
given_length i readings v inclinometer = refl
given_length i readings v gyro_temperatures = refl
given_length i readings v accelerometer_temperatures = refl
given_length i readings v inclinometer_temperatures = refl
given_length i readings v aux = refl
given_length i readings v counter = refl
given_length i readings v latency = refl

module _ (p : Part) (zs : List ℤ) (long : length zs ≡ length (widths p)) where
  -- values as fields have the part's widths
  pub part_widths : map length (fields_for (widths p) zs) ≡ widths p
  part_widths = fields_wide (widths p) zs (sym long)

  -- what 15 lets pass of a carried part is read as the same values, and of another it is 0
  pub part_back : part_outside true p zs ≡ false → read_as (signs p) (fields_for (widths p) zs) ≡ zs
  unfolding part_outside
  part_back e = fields_back (signs p) (widths p) zs (part_wide p) (signs_widths p ∙ sym long, sym long) e

  pub part_zero : part_outside false p zs ≡ false → zs ≡ zeros (signs p)
  unfolding part_outside
  part_zero e = none_zero (signs p) zs (signs_widths p ∙ sym long) e

-- ---- the fields of a datagram

cut_widths : (ws : List ℕ) (at : ℕ) (s : List ℕ) → map length (cut ws at s) ≡ ws
cut_widths [] at s = refl
cut_widths (w ∷ ws) at s = ap₂ ◌∷◌ (window_length w at s) (cut_widths ws (at + w) s)

cut_count : (ws : List ℕ) (at : ℕ) (s : List ℕ) → length (cut ws at s) ≡ length ws
cut_count [] at s = refl
cut_count (w ∷ ws) at s = ap suc (cut_count ws (at + w) s)

cut_bytes : (ws : List ℕ) (at : ℕ) {s : List ℕ} → AllBytes s → AllFields (cut ws at s)
cut_bytes [] at h = tt
cut_bytes (w ∷ ws) at h = (window_bytes w at h, cut_bytes ws (at + w) h)

-- read and written again, and in their widths
cut_again : (ss : List Sign) (ws : List ℕ) (at : ℕ) (s : List ℕ) → length ss ≡ length ws → AllBytes s → fields_for ws (read_as ss (cut ws at s)) ≡ cut ws at s
cut_again ss ws at s l h =
    subst (λ (vs : List ℕ). fields_for vs (read_as ss (cut ws at s)) ≡ cut ws at s) (cut_widths ws at s)
    (fields_again ss (cut ws at s) (l ∙ sym (cut_count ws at s)) (cut_bytes ws at h))

cut_fits : (ss : List Sign) (ws : List ℕ) (at : ℕ) (s : List ℕ) → AllWide ws → AllBytes s → any_outside ss ws (read_as ss (cut ws at s)) ≡ false
cut_fits ss ws at s w h =
    let e = cut_widths ws at s in
    subst (λ (vs : List ℕ). any_outside ss vs (read_as ss (cut ws at s)) ≡ false) e (fields_fit ss (cut ws at s) (subst AllWide (sym e) w) (cut_bytes ws at h))

-- the values of a part as they are read, 0 for one that isn't carried
unfoldable pub part_read : List Part → List ℕ → Part → List ℤ
part_read ps s p = cond (carries ps p) (read_as (signs p) (cut (widths p) (offset ps p) s)) (zeros (signs p))

module _ (ps : List Part) (s : List ℕ) (p : Part) where
  pub read_carried : carries ps p ≡ true → part_read ps s p ≡ read_as (signs p) (fields_of_part ps s p)
  unfolding part_read fields_of_part
  read_carried c = rw c

  pub read_absent : carries ps p ≡ false → part_read ps s p ≡ zeros (signs p)
  unfolding part_read
  read_absent c = rw c

  module _ (h : AllBytes s) where
    -- what is read of a datagram passes 15, and is written as the same fields
    pub read_passes : part_outside (carries ps p) p (part_read ps s p) ≡ false
    unfolding part_read part_outside
    read_passes = by (carries ps p)
      where
        by : (b : Bool) → let zs = cond b (read_as (signs p) (cut (widths p) (offset ps p) s)) (zeros (signs p)) in
            cond b (any_outside (signs p) (widths p) zs) (any_not_zero zs) ≡ false
        by true = cut_fits (signs p) (widths p) (offset ps p) s (part_wide p) h
        by false = zeros_none (signs p)

    pub read_again : carries ps p ≡ true → fields_for (widths p) (part_read ps s p) ≡ fields_of_part ps s p
    unfolding part_read fields_of_part
    read_again c = rw c (cut_again (signs p) (widths p) (offset ps p) s (signs_widths p) h)

-- ---- the values read of a datagram are those of its parts

-- X, Y and Z of w bytes and a status; AUX and its status; one unsigned number of w bytes
axes_read : (b : Bool) (w at : ℕ) (s : List ℕ)
    → let fs = cond b (cut (w ∷ w ∷ w ∷ 1 ∷ []) at s) [] in
    let ss = signed ∷ signed ∷ signed ∷ unsigned ∷ [] in
    axes_and_status (axes fs) (pos (status fs)) ≡ cond b (read_as ss (cut (w ∷ w ∷ w ∷ 1 ∷ []) at s)) (zeros ss)
unfolding signed_bytes twos_complement big_endian
axes_read true w at s = refl
axes_read false w at s = refl

aux_read : (b : Bool) (at : ℕ) (s : List ℕ)
    → let fs = cond b (cut (3 ∷ 1 ∷ []) at s) [] in
    let ss = signed ∷ unsigned ∷ [] in
    signed_field fs 0 ∷ pos (unsigned_field fs 1) ∷ [] ≡ cond b (read_as ss (cut (3 ∷ 1 ∷ []) at s)) (zeros ss)
unfolding signed_bytes twos_complement big_endian
aux_read true at s = refl
aux_read false at s = refl

number_read : (b : Bool) (w at : ℕ) (s : List ℕ)
    → pos (unsigned_field (cond b (cut (w ∷ []) at s) []) 0) ∷ [] ≡ cond b (read_as (unsigned ∷ []) (cut (w ∷ []) at s)) (zeros (unsigned ∷ []))
unfolding big_endian
number_read true w at s = refl
number_read false w at s = refl

module _ (i : ℕ) (ps : List Part) (s : List ℕ) where
  abbrev again : Part → List ℤ
  again p = given i (contents ps s).readings (values_read (contents ps s)) p

  pub given_read : (p : Part) → eqb (place p) 0 ≡ false → again p ≡ part_read ps s p
  unfolding given part_read fields_of_part
  given_read identifier e = let z : ◌≡◌ {A = ℕ} 0 1 = cc in absurd (omega arith)
  given_read gyro e = axes_read (carries ps gyro) 3 (offset ps gyro) s
  given_read accelerometer e = axes_read (carries ps accelerometer) 3 (offset ps accelerometer) s
  given_read inclinometer e = axes_read (carries ps inclinometer) 3 (offset ps inclinometer) s
  given_read gyro_temperatures e = axes_read (carries ps gyro_temperatures) 2 (offset ps gyro_temperatures) s
  given_read accelerometer_temperatures e = axes_read (carries ps accelerometer_temperatures) 2 (offset ps accelerometer_temperatures) s
  given_read inclinometer_temperatures e = axes_read (carries ps inclinometer_temperatures) 2 (offset ps inclinometer_temperatures) s
  given_read aux e = aux_read (carries ps aux) (offset ps aux) s
  given_read counter e = number_read (carries ps counter) 1 (offset ps counter) s
  given_read latency e = number_read (carries ps latency) 2 (offset ps latency) s

-- ---- the parts of a list have as many bytes as the layout says

pub parts_length : (i : ℕ) (readings : List (List ℤ)) (v : Values) (ps : List Part) → length (parts_with (given i readings v) ps) ≡ bytes ps
unfolding parts_with
parts_length i readings v =
    in_turn_length (λ p. fields_for (widths p) (given i readings v p)) (λ p. part_widths p (given i readings v p) (given_length i readings v p))
