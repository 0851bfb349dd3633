-- What is written is accepted and read as the same fields, and what is accepted is written again as the same bytes.
use Prim.Native.Nat.{ℕ, ◌/◌, ◌%◌, ◌≤◌, ◌<◌}
use native.Mathlib.Omega.{arith}
use mathlib.Core.Bool.{Bool, true, false, ◌||◌}
use mathlib.Core.List.{List, [], ◌∷◌, ◌++◌, map}
use mathlib.Core.Path.{◌≡◌, refl, sym, ap, subst, ◌∙◌}
use lib.Dec.{eqb}
use lib.IntN.{ℤ, pos}
use lib.ListN.{length, get_or, take}
use borrow.Author.Tests.{eqb-true}
use Rattle.integers.specs.Bytes.{AllBytes, in_bytes, value_bytes, joined}
use Rattle.integers.proofs.Booleans.{or_split}
use Rattle.integers.proofs.Bytes.{bytes_nil, bytes_append}
use Rattle.integers.proofs.Values.{value_bytes_bytes}
use Rattle.setup.specs.Layout.{Part, identifier, gyro, accelerometer, inclinometer, gyro_temperatures, accelerometer_temperatures}
use Rattle.setup.specs.Layout.{inclinometer_temperatures, aux, counter, latency, widths, bytes, place, carries, parts_of, row_at}
use Rattle.setup.specs.Setup.{ruling_on, terminated, length_of}
use Rattle.setup.specs.declared.Row.{Row}
use Rattle.setup.specs.declared.Setup.{Setup}
use Rattle.setup.proofs.Rows.{every_row}
use Rattle.setup.proofs.Layouts.{same_part}
use Rattle.setup.proofs.Refusals as refusals
use Rattle.wire.specs.Fields.{fields_of_part, Contents, contents, contents_of, fields_of}
use Rattle.wire.proofs.FieldBytes.{row_fields}
use Rattle.acceptance.specs.Acceptable.{acceptable, completed}
use Rattle.acceptance.proofs.Acceptance.{accepted}
use Rattle.acceptance.proofs.Completed.{laid, listed_byte, completed_by, check_sent, completed_acceptable, completed_length, completed_bytes}
use Rattle.acceptance.proofs.Completed.{acceptable_long, acceptable_completed}
use Rattle.made_datagram.specs.declared.Values.{Values}
use Rattle.made_datagram.specs.Making.{axes_and_status, given, values_read, fields_for, parts_with, datagram_in, made_datagram, signs}
use Rattle.made_datagram.specs.Making.{part_outside, given_parts, any_of, outside_in}
use Rattle.made_datagram.specs.RoundTrip.{Shaped, RoundTrip}
use Rattle.made_datagram.proofs.ListedRows.{row_outside, row_datagram}
use Rattle.made_datagram.proofs.InTurn.{written_read, in_turn_same, distinct, read_written}
use Rattle.made_datagram.proofs.PartValues.{parts_length, read_as, given_length, part_widths, part_back, part_zero, part_read, read_carried, read_absent, read_passes, read_again, given_read}
use Rattle.std.specs.Prelude.{Some, Ok}

-- ---- 15 of each part

any_none : (test : Part → Bool) (ps : List Part) (p : Part) → any_of test ps ≡ false → carries ps p ≡ true → test p ≡ false
any_none test [] p e c = let z : ◌≡◌ {A = ℕ} 0 1 = cc in absurd (omega arith)
any_none test (q ∷ qs) p e c = by (eqb (place p) (place q)) refl c (any_none test qs p (or_split (test q) (any_of test qs) e).1)
  where
    by : (t : Bool) → eqb (place p) (place q) ≡ t → (t || carries qs p) ≡ true → (carries qs p ≡ true → test p ≡ false) → test p ≡ false
    by true s h next = ap test (same_part p q (eqb-true (place p) (place q) s)) ∙ (or_split (test q) (any_of test qs) e).0
    by false s h next = next h

-- values are given for every part but the identifier
given_carried : (p : Part) → eqb (place p) 0 ≡ false → carries given_parts p ≡ true
given_carried identifier e = let z : ◌≡◌ {A = ℕ} 0 1 = cc in absurd (omega arith)
given_carried gyro e = refl
given_carried accelerometer e = refl
given_carried inclinometer e = refl
given_carried gyro_temperatures e = refl
given_carried accelerometer_temperatures e = refl
given_carried inclinometer_temperatures e = refl
given_carried aux e = refl
given_carried counter e = refl
given_carried latency e = refl

module _ (ps : List Part) (values : Part → List ℤ) where
  pub each_inside : outside_in ps values ≡ false → (p : Part) → eqb (place p) 0 ≡ false → part_outside (carries ps p) p (values p) ≡ false
  unfolding outside_in
  each_inside e p n = any_none (λ (q : Part). part_outside (carries ps q) q (values q)) given_parts p e (given_carried p n)

  pub inside_each : ((p : Part) → eqb (place p) 0 ≡ false → part_outside (carries ps p) p (values p) ≡ false) → outside_in ps values ≡ false
  unfolding outside_in
  inside_each h =
      rw (
        h gyro refl,
        h accelerometer refl,
        h inclinometer refl,
        h gyro_temperatures refl,
        h accelerometer_temperatures refl,
        h inclinometer_temperatures refl,
        h aux refl,
        h counter refl,
        h latency refl,
      )

-- ---- the parts of a row

abbrev Distinct : Row → Type 0
Distinct r = distinct (parts_of r) ≡ true

-- no part stands twice in a row
parts_distinct : (r : Row) → Distinct r
unfolding parts_of
parts_distinct = every_row Distinct ((refl, refl, refl, refl), (refl, refl, refl, refl), (refl, refl, refl, refl), (refl, refl, refl, refl))

bytes_joined : (ws : List ℕ) (zs : List ℤ) → AllBytes (joined (fields_for ws zs))
bytes_joined [] zs = bytes_nil
bytes_joined (w ∷ ws) [] = bytes_nil
bytes_joined (w ∷ ws) (z ∷ zs) = bytes_append (value_bytes_bytes w z) (bytes_joined ws zs)

parts_bytes : (values : Part → List ℤ) (ps : List Part) → AllBytes (parts_with values ps)
unfolding parts_with
parts_bytes values [] = bytes_nil
parts_bytes values (p ∷ ps) = bytes_append (bytes_joined (widths p) (values p)) (parts_bytes values ps)

-- ---- a setup whose identifier has a row

module _ (u : Setup) (r : Row) (listed : row_at u.identifier ≡ Some r) (termination : u.termination ≤ 1) where
  abbrev i : ℕ
  i = u.identifier

  -- ---- what is written
  module _ (readings : List (List ℤ)) (v : Values) where
    abbrev values : Part → List ℤ
    values = given i readings v

    abbrev fields : Part → List (List ℕ)
    fields p = fields_for (widths p) (values p)

    abbrev front : List ℕ
    front = parts_with values (parts_of r)

    wide : (p : Part) → map length (fields p) ≡ widths p
    wide p = part_widths p (values p) (given_length i readings v p)

    front_length : length front ≡ bytes (parts_of r)
    front_length = parts_length i readings v (parts_of r)

    front_first : get_or front 0 0 ≡ i
    unfolding parts_with parts_of given value_bytes in_bytes
    front_first = let h = listed_byte i listed in let e : i % 256 / 1 % 256 ≡ i = omega arith in e

    datagram_is : made_datagram u readings v ≡ completed (laid u r listed termination) front
    unfolding datagram_in
    datagram_is = row_datagram u listed readings v

    pub made_acceptable : acceptable u (made_datagram u readings v) ≡ true
    made_acceptable = ap (acceptable u) datagram_is ∙ completed_acceptable u r listed termination front (parts_bytes values (parts_of r)) front_length front_first

    pub made_length : length (made_datagram u readings v) ≡ length_of u
    made_length = ap length datagram_is ∙ completed_length u r listed termination front (parts_bytes values (parts_of r)) front_length front_first

    pub made_bytes_lem : AllBytes (made_datagram u readings v)
    made_bytes_lem =
        subst AllBytes (sym datagram_is) (completed_bytes u r listed termination front (parts_bytes values (parts_of r)) front_length front_first)

    -- the fields of a carried part are those that were written
    part_read_lem : (p : Part) → carries (parts_of r) p ≡ true → fields_of_part (parts_of r) (made_datagram u readings v) p ≡ fields p
    unfolding parts_with
    part_read_lem p c =
        rw (datagram_is, completed_by r (terminated u) front)
        (written_read fields wide (parts_of r) p (check_sent front ++ (laid u r listed termination).ending) c)

    -- and so, where 15 lets the values pass, each part is read as the values given for it
    pub made_read : outside_in (parts_of r) values ≡ false → (p : Part) → eqb (place p) 0 ≡ false → part_read (parts_of r) (made_datagram u readings v) p ≡ values p
    made_read e p n = by (carries (parts_of r) p) refl (each_inside (parts_of r) values e p n)
      where
        by : (b : Bool) → carries (parts_of r) p ≡ b → part_outside b p (values p) ≡ false → part_read (parts_of r) (made_datagram u readings v) p ≡ values p
        by true c o =
            read_carried (parts_of r) (made_datagram u readings v) p c ∙ ap (read_as (signs p)) (part_read_lem p c) ∙ part_back p (values p) (given_length i readings v p) o
        by false c o = read_absent (parts_of r) (made_datagram u readings v) p c ∙ sym (part_zero p (values p) (given_length i readings v p) o)

  -- ---- what is read
  module _ (d : List ℕ) (only-bytes : AllBytes d) (good : acceptable u d ≡ true) where
    abbrev told : Contents
    told = contents (parts_of r) d

    abbrev again : Part → List ℤ
    again = given i told.readings (values_read told)

    pub again_passes : outside_in (parts_of r) again ≡ false
    again_passes =
        inside_each (parts_of r) again
        (λ p n. ap (part_outside (carries (parts_of r) p) p) (given_read i (parts_of r) d p n) ∙ read_passes (parts_of r) d p only-bytes)

    -- each part's values are written as its fields, the identifier too
    identifier_field : fields_for (widths identifier) (again identifier) ≡ fields_of_part (parts_of r) d identifier
    unfolding given fields_of_part value_bytes in_bytes parts_of
    identifier_field =
        let h = listed_byte i listed in
        let f = (accepted u d good).first in
        let e : i % 256 / 1 % 256 ≡ get_or d 0 0 = omega arith in
        ap (λ (n : ℕ). (n ∷ []) ∷ []) e

    again_fields : (p : Part) → carries (parts_of r) p ≡ true → fields_for (widths p) (again p) ≡ fields_of_part (parts_of r) d p
    again_fields p c = by (eqb (place p) 0) refl
      where
        by : (b : Bool) → eqb (place p) 0 ≡ b → fields_for (widths p) (again p) ≡ fields_of_part (parts_of r) d p
        by true e =
            subst (λ (q : Part). fields_for (widths q) (again q) ≡ fields_of_part (parts_of r) d q) (sym (same_part p identifier (eqb-true (place p) 0 e)))
            identifier_field
        by false e = ap (fields_for (widths p)) (given_read i (parts_of r) d p e) ∙ read_again (parts_of r) d p only-bytes c

    pub again_same : made_datagram u told.readings (values_read told) ≡ d
    unfolding parts_with
    again_same =
        let long = acceptable_long u r listed termination d only-bytes good in
        datagram_is told.readings (values_read told)
        ∙ ap (completed (laid u r listed termination))
        (in_turn_same (λ (p : Part). fields_for (widths p) (again p)) (fields_of_part (parts_of r) d) (parts_of r) again_fields
        ∙ read_written (parts_of r) d (parts_distinct r) (omega arith))
        ∙ sym (acceptable_completed u r listed termination d only-bytes good)

-- ---- lists of three

three : {A : Type 0} (l : List A) (d : A) → length l ≡ 3 → get_or l 0 d ∷ get_or l 1 d ∷ get_or l 2 d ∷ [] ≡ l
three [] d e = absurd (omega arith)
three (x ∷ []) d e = absurd (omega arith)
three (x ∷ y ∷ []) d e = absurd (omega arith)
three (x ∷ y ∷ z ∷ []) d e = refl
three (x ∷ y ∷ z ∷ w ∷ l) d e = absurd (omega arith)

-- X, Y and Z of two equal lists of values, and the status behind them
rows_same : (k l : List ℤ) {s t : ℤ} → length k ≡ 3 → length l ≡ 3 → axes_and_status k s ≡ axes_and_status l t → k ≡ l
rows_same k l m n e = sym (three k (pos 0) m) ∙ ap (take 3) e ∙ three l (pos 0) n

status_same : (k l : List ℤ) {s t : ℤ} → axes_and_status k s ≡ axes_and_status l t → s ≡ t
status_same k l e = ap (λ (zs : List ℤ). get_or zs 3 (pos 0)) e

-- three elements that are the same one by one
threes_same : {A : Type 0} (z : A) (k l : List A) → length k ≡ 3 → length l ≡ 3 → get_or k 0 z ≡ get_or l 0 z → get_or k 1 z ≡ get_or l 1 z
    → get_or k 2 z ≡ get_or l 2 z → k ≡ l
threes_same z k l m n a b c =
    let e : get_or k 0 z ∷ get_or k 1 z ∷ get_or k 2 z ∷ [] ≡ get_or l 0 z ∷ get_or l 1 z ∷ get_or l 2 z ∷ [] = rw (a, b, c) in
    sym (three k z m) ∙ e ∙ three l z n

-- values that are the same for each part are the same
module _
    (i : ℕ) (readings told : List (List ℤ)) (v w : Values) (shaped : Shaped readings v) (alike : Shaped told w)
    (same : (p : Part) → eqb (place p) 0 ≡ false → given i told w p ≡ given i readings v p) where
  row_same : (p : Part) → eqb (place p) 0 ≡ false → (k l : List ℤ) {s t : ℤ} → length k ≡ 3 → length l ≡ 3 → given i told w p ≡ axes_and_status k s
      → given i readings v p ≡ axes_and_status l t → (k ≡ l) × (s ≡ t)
  row_same p n k l {s} {t} a b e f =
      let g : axes_and_status k s ≡ axes_and_status l t = sym e ∙ same p n ∙ f in
      (rows_same k l a b g, status_same k l g)

  group : (p : Part) → eqb (place p) 0 ≡ false → (g : ℕ) → g < 3 → {s t : ℤ} → given i told w p ≡ axes_and_status (get_or told g []) s
      → given i readings v p ≡ axes_and_status (get_or readings g []) t → (get_or told g [] ≡ get_or readings g []) × (s ≡ t)
  group p n g h e f = row_same p n (get_or told g []) (get_or readings g []) (alike.axes g h) (shaped.axes g h) e f

  pub given_same : (told ≡ readings) × (w ≡ v)
  unfolding given
  given_same =
      let one = group gyro refl 0 (omega arith) refl refl in
      let two = group accelerometer refl 1 (omega arith) refl refl in
      let other = group inclinometer refl 2 (omega arith) refl refl in
      let warm = row_same gyro_temperatures refl w.gyro_temperatures v.gyro_temperatures alike.gyro_temperatures shaped.gyro_temperatures refl refl in
      let warmer = row_same accelerometer_temperatures refl w.accelerometer_temperatures v.accelerometer_temperatures
      alike.accelerometer_temperatures shaped.accelerometer_temperatures refl refl in
      let warmest = row_same inclinometer_temperatures refl w.inclinometer_temperatures v.inclinometer_temperatures
      alike.inclinometer_temperatures shaped.inclinometer_temperatures refl refl in
      let statuses = threes_same (pos 0) w.statuses v.statuses alike.statuses shaped.statuses one.1 two.1 other.1 in
      let sets = threes_same (pos 0) w.temperature_statuses v.temperature_statuses alike.temperature_statuses_lem shaped.temperature_statuses_lem warm.1 warmer.1 warmest.1 in
      let voltage = ap (λ (zs : List ℤ). get_or zs 0 (pos 0)) (same aux refl) in
      let voltage-status = ap (λ (zs : List ℤ). get_or zs 1 (pos 0)) (same aux refl) in
      let count = ap (λ (zs : List ℤ). get_or zs 0 (pos 0)) (same counter refl) in
      let late = ap (λ (zs : List ℤ). get_or zs 0 (pos 0)) (same latency refl) in (
        threes_same [] told readings alike.groups shaped.groups one.0 two.0 other.0,
        λ j.
            record {
              statuses = statuses j;
              gyro_temperatures = warm.0 j;
              accelerometer_temperatures = warmer.0 j;
              inclinometer_temperatures = warmest.0 j;
              temperature_statuses = sets j;
              aux = voltage j;
              aux_status = voltage-status j;
              counter = count j;
              latency = late j;
            },
      )

-- the fields of a datagram are three by three
pub contents_shaped : (ps : List Part) (d : List ℕ) → Shaped (contents ps d).readings (values_read (contents ps d))
contents_shaped ps d =
    record {
      groups = refl;
      axes = refusals.each (λ (g : ℕ). length (get_or (contents ps d).readings g []) ≡ 3) refl refl refl;
      statuses = refl;
      gyro_temperatures = refl;
      accelerometer_temperatures = refl;
      inclinometer_temperatures = refl;
      temperature_statuses_lem = refl;
    }

-- ---- of every setup that is not refused

pub round_trip : (u : Setup) → ruling_on u ≡ Ok tt → RoundTrip u
unfolding contents_of
round_trip u ok =
    let k = refusals.accepted u ok in
    let r = k.row in
    let i = u.identifier in
    record {
      written = λ readings v e. (
        made_bytes_lem u r k.listed k.termination readings v,
        made_acceptable u r k.listed k.termination readings v,
        made_length u r k.listed k.termination readings v,
      );
      read = λ readings v s e.
          let d = made_datagram u readings v in
          let inside : outside_in (parts_of r) (given i readings v) ≡ false = sym (row_outside u k.listed readings v) ∙ e in
          rw (row_fields i d k.listed)
          (given_same i readings (contents (parts_of r) d).readings v (values_read (contents (parts_of r) d)) s (contents_shaped (parts_of r) d)
          (λ p n. given_read i (parts_of r) d p n ∙ made_read u r k.listed k.termination readings v inside p n));
      passes = λ d b g.
          rw (row_fields i d k.listed)
          (row_outside u k.listed (contents (parts_of r) d).readings (values_read (contents (parts_of r) d))
          ∙ again_passes u r k.listed k.termination d b g);
      again = λ d b g. rw (row_fields i d k.listed) (again_same u r k.listed k.termination d b g);
      told_apart = λ d e b c g h same.
          let back : (x : List ℕ) → AllBytes x → acceptable u x ≡ true → made_datagram u (fields_of i x).readings (values_read (fields_of i x)) ≡ x =
          λ x b g. rw (row_fields i x k.listed) (again_same u r k.listed k.termination x b g) in
          sym (back d b g) ∙ ap (λ (c : Contents). made_datagram u c.readings (values_read c)) same ∙ back e c h;
    }
