-- Parts put into a buffer as the code writes them, and all parts of a row one behind the other.
use Prim.Native.Nat.{ℕ, ◌+◌, ◌≤◌}
use native.Mathlib.Omega.{arith}
use mathlib.Core.Bool.{Bool, true, false, ◌&&◌, cond}
use mathlib.Core.List.{List, [], ◌∷◌, ◌++◌, append-nil, append_assoc}
use mathlib.Core.Path.{◌≡◌, refl, sym, ap, ap₂, subst, ◌∙◌}
use lib.IntN.{ℤ, pos}
use lib.ListN.{length, get_or, length-append}
use mir.Syntax.{w32}
use mir.Val.{SFits, of_z, to_z}
use mir.ValLaws.{to_z-of_z}
use Rattle.integers.specs.Buffers.{Put}
use Rattle.integers.specs.Bytes.{value_bytes, joined}
use Rattle.integers.proofs.Buffers.{put_none, put_length}
use Rattle.integers.proofs.Values.{value_bytes_length}
use Rattle.setup.specs.Layout.{Part, gyro, accelerometer, inclinometer, gyro_temperatures, accelerometer_temperatures}
use Rattle.setup.specs.Layout.{inclinometer_temperatures, aux, counter, latency, widths, only, group_parts, temperature_parts, parts_of}
use Rattle.setup.specs.declared.Row.{Row}
use Rattle.made_datagram.specs.Making.{axes_and_status, given, fields_for, in_turn, parts_with}
use Rattle.making.specs.Writing.{axes_bytes, aux_bytes, groups_bytes, temperatures_bytes}
use Rattle.made_datagram.specs.declared.Values.{Values}

-- a text that depends on a signed argument, which the callee got as what is read back
pub put_passed : (text : ℤ → List ℕ) (z : ℤ) {b b1 : List ℕ} {at end : ℕ} → SFits w32 z → Put b at (text (to_z w32 (of_z w32 z))) b1 end → Put b at (text z) b1 end
put_passed text z {b} {b1} {at} {end} f p = subst (λ (x : ℤ). Put b at (text x) b1 end) (to_z-of_z w32 z f) p

pub room_passed : (text : ℤ → List ℕ) (z : ℤ) (at : ℕ) {n : ℕ} → SFits w32 z → at + length (text z) ≤ n → at + length (text (to_z w32 (of_z w32 z))) ≤ n
room_passed text z at {n} f h = subst (λ (x : ℤ). at + length (text x) ≤ n) (sym (to_z-of_z w32 z f)) h

-- where a value ends
pub value_end : (w : ℕ) (z : ℤ) {b b1 : List ℕ} {at end : ℕ} → Put b at (value_bytes w z) b1 end → (end ≡ at + w) × (length b1 ≡ length b)
value_end w z p = (omega (arith, p.place, value_bytes_length w z), put_length p)

-- ---- a group or a temperature set, and AUX

module _ (w : ℕ) (row : List ℤ) (status : ℤ) {carried : Bool} where
  pub axes_length : carried ≡ true → length (axes_bytes carried w row status) ≡ w + w + w + 1
  unfolding axes_bytes
  axes_length c =
      let x = get_or row 0 (pos 0) in
      let y = get_or row 1 (pos 0) in
      let z = get_or row 2 (pos 0) in
      rw c
      (omega (
        arith,
        length-append (value_bytes w x) (value_bytes w y ++ (value_bytes w z ++ (value_bytes 1 status ++ []))),
        length-append (value_bytes w y) (value_bytes w z ++ (value_bytes 1 status ++ [])),
        length-append (value_bytes w z) (value_bytes 1 status ++ []),
        length-append (value_bytes 1 status) [],
        value_bytes_length w x,
        value_bytes_length w y,
        value_bytes_length w z,
        value_bytes_length 1 status,
      ))

  pub axes_put : {b b1 : List ℕ} {at end : ℕ} → carried ≡ true → Put b at (joined (fields_for (w ∷ w ∷ w ∷ 1 ∷ []) (axes_and_status row status))) b1 end
      → Put b at (axes_bytes carried w row status) b1 end
  unfolding axes_bytes
  axes_put c p = rw c p

  pub axes_none : {b : List ℕ} {at : ℕ} → carried ≡ false → Put b at (axes_bytes carried w row status) b at
  unfolding axes_bytes
  axes_none c = rw c put_none

module _ (value status : ℤ) {carried : Bool} where
  pub aux_length : carried ≡ true → length (aux_bytes carried value status) ≡ 4
  unfolding aux_bytes
  aux_length c =
      rw c
      (omega (
        arith,
        length-append (value_bytes 3 value) (value_bytes 1 status ++ []),
        length-append (value_bytes 1 status) [],
        value_bytes_length 3 value,
        value_bytes_length 1 status,
      ))

  pub aux_put : {b b1 : List ℕ} {at end : ℕ} → carried ≡ true → Put b at (joined (fields_for (3 ∷ 1 ∷ []) (value ∷ status ∷ []))) b1 end
      → Put b at (aux_bytes carried value status) b1 end
  unfolding aux_bytes
  aux_put c p = rw c p

  pub aux_none : {b : List ℕ} {at : ℕ} → carried ≡ false → Put b at (aux_bytes carried value status) b at
  unfolding aux_bytes
  aux_none c = rw c put_none

-- ---- all parts of a row

in_turn_append : (f : Part → List (List ℕ)) (ps qs : List Part) → in_turn f (ps ++ qs) ≡ in_turn f ps ++ in_turn f qs
in_turn_append f [] qs = refl
in_turn_append f (p ∷ ps) qs = ap (λ l. joined (f p) ++ l) (in_turn_append f ps qs) ∙ sym (append_assoc (joined (f p)) (in_turn f ps) (in_turn f qs))

in_turn_only : (f : Part → List (List ℕ)) (c : Bool) (p : Part) → in_turn f (only c (p ∷ [])) ≡ cond c (joined (f p)) []
in_turn_only f true p = append-nil (joined (f p))
in_turn_only f false p = refl

module _ (i : ℕ) (readings : List (List ℤ)) (v : Values) where
  abbrev fields : Part → List (List ℕ)
  fields p = fields_for (widths p) (given i readings v p)

  -- a part and two others that may be carried
  three_in_turn : (p q o : Part) (c d : Bool) → in_turn fields (p ∷ only c (q ∷ []) ++ only d (o ∷ []))
      ≡ joined (fields p) ++ (cond c (joined (fields q)) [] ++ cond d (joined (fields o)) [])
  three_in_turn p q o c d =
      ap (λ l. joined (fields p) ++ l)
      (in_turn_append fields (only c (q ∷ [])) (only d (o ∷ [])) ∙ ap₂ ◌++◌ (in_turn_only fields c q) (in_turn_only fields d o))

  groups_in_turn : (r : Row) → in_turn fields (group_parts r) ≡ groups_bytes r readings v.statuses
  unfolding groups_bytes axes_bytes given
  groups_in_turn r = three_in_turn gyro accelerometer inclinometer r.acceleration r.inclination

  temperatures_in_turn : (r : Row) → in_turn fields (temperature_parts r) ≡ temperatures_bytes r v
  unfolding temperatures_bytes axes_bytes given
  temperatures_in_turn r = by r.temperatures
    where
      by : (t : Bool)
          → in_turn fields (only t (gyro_temperatures ∷ only r.acceleration (accelerometer_temperatures ∷ []) ++ only r.inclination (inclinometer_temperatures ∷ [])))
          ≡ cond t (joined (fields gyro_temperatures)) []
          ++ (cond (t && r.acceleration) (joined (fields accelerometer_temperatures)) [] ++ cond (t && r.inclination) (joined (fields inclinometer_temperatures)) [])
      by true = three_in_turn gyro_temperatures accelerometer_temperatures inclinometer_temperatures r.acceleration r.inclination
      by false = refl

  aux_in_turn : (r : Row) → in_turn fields (only r.aux (aux ∷ [])) ≡ aux_bytes r.aux v.aux v.aux_status
  unfolding aux_bytes given
  aux_in_turn r = in_turn_only fields r.aux aux

  -- the identifier, the groups, the temperature sets, AUX, the counter, the latency
  pub parts_in_turn : (r : Row)
      → value_bytes 1 (pos i) ++ (groups_bytes r readings v.statuses ++ (temperatures_bytes r v ++ (aux_bytes r.aux v.aux v.aux_status
      ++ (value_bytes 1 v.counter ++ value_bytes 2 v.latency))))
      ≡ parts_with (given i readings v) (parts_of r)
  unfolding parts_with parts_of given
  parts_in_turn r =
      let g = groups_bytes r readings v.statuses in
      let t = temperatures_bytes r v in
      let a = aux_bytes r.aux v.aux v.aux_status in
      let l = value_bytes 1 v.counter ++ value_bytes 2 v.latency in
      let last = counter ∷ latency ∷ [] in
      let voltage = only r.aux (aux ∷ []) in
      let ends : in_turn fields last ≡ l =
      ap₂ ◌++◌ (append-nil (value_bytes 1 v.counter)) (append-nil (value_bytes 2 v.latency ++ []) ∙ append-nil (value_bytes 2 v.latency)) in
      let warm : in_turn fields (group_parts r ++ temperature_parts r) ≡ g ++ t =
      in_turn_append fields (group_parts r) (temperature_parts r) ∙ ap₂ ◌++◌ (groups_in_turn r) (temperatures_in_turn r) in
      let all : in_turn fields (group_parts r ++ temperature_parts r ++ voltage) ≡ (g ++ t) ++ a =
      in_turn_append fields (group_parts r ++ temperature_parts r) voltage ∙ ap₂ ◌++◌ warm (aux_in_turn r) in
      let whole : in_turn fields (group_parts r ++ temperature_parts r ++ voltage ++ last) ≡ g ++ (t ++ (a ++ l)) =
      in_turn_append fields (group_parts r ++ temperature_parts r ++ voltage) last ∙ ap₂ ◌++◌ all ends ∙ append_assoc (g ++ t) a l ∙ append_assoc g t (a ++ l) in
      sym (ap₂ ◌++◌ (append-nil (value_bytes 1 (pos i))) whole)
