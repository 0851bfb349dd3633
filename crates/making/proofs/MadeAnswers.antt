-- The answer and the buffer of a datagram that is written, case by case in checking order.
use Prim.Native.Nat.{ℕ, ◌+◌, ◌≤◌, ◌<◌}
use native.Mathlib.Nat.{zero-add}
use native.Mathlib.Omega.{arith}
use mathlib.Core.Bool.{Bool, true, false}
use mathlib.Core.List.{List, ◌++◌}
use mathlib.Core.Path.{◌≡◌, refl, sym, ap, ap₂, subst, ◌∙◌}
use lib.IntN.{ℤ}
use lib.ListN.{length, take, length-append}
use borrow.Author.Tests.{lt-ltb, le-ltb}
use Rattle.integers.specs.Buffers.{Put}
use Rattle.integers.specs.Bytes.{in_bytes}
use Rattle.integers.proofs.Buffers.{put_front, put_length, then_put, put_taken}
use Rattle.integers.proofs.Values.{in_bytes_length}
use Rattle.crc.specs.Check.{check32}
use Rattle.setup.specs.Layout.{Part, parts_of, Layout, layout_of, length_in}
use Rattle.setup.specs.Setup.{first_of, buffer_by, setup_rules, ruling_on}
use Rattle.setup.specs.Sensor.{sensor_of, description_of}
use Rattle.setup.specs.declared.Row.{Row}
use Rattle.setup.specs.declared.Sensor.{Sensor}
use Rattle.setup.specs.declared.Setup.{Setup}
use Rattle.setup.proofs.Layouts.{length_parts}
use Rattle.setup.proofs.Refusals.{listed_length}
use Rattle.setup.proofs.Rules.{first_accepted, first_refused}
use Rattle.setup.proofs.Sensors.{sensor_row}
use Rattle.acceptance.proofs.Completed.{completed_by}
use Rattle.made_datagram.specs.Making.{given, parts_with, datagram_in, outside_in, own_rules, making_rules, making_ruling, made_answer, made_buffer}
use Rattle.making.specs.Writing.{ending_bytes, last_rules, answer_by, buffer_of}
use Rattle.made_datagram.specs.declared.Values.{Values}
use Rattle.made_datagram.proofs.ListedRows.{row_outside, row_datagram}
use Rattle.made_datagram.proofs.PartValues.{parts_length}
use Rattle.making.proofs.ValueWriting.{ending_length}
use Rattle.std.specs.Prelude.{Result, Ok, Err}
use Rattle.refusals.specs.Refusals.{Ruling, unless_refused, and_then}
use Rattle.refusals.specs.declared.Refusal.{Refusal}
use Rattle.refusals.specs.declared.Refusal.TheVariants.{DatagramOutside, DatagramRoom}

-- ---- a datagram of a layout

module _ (i : ℕ) (r : Row) (t : Bool) (readings : List (List ℤ)) (v : Values) where
  abbrev front : List ℕ
  front = parts_with (given i readings v) (parts_of r)

  -- the parts, the check of them, the ending
  datagram_by : front ++ (in_bytes 4 (check32 front) ++ ending_bytes t) ≡ datagram_in (layout_of r t) (given i readings v)
  unfolding datagram_in ending_bytes
  datagram_by = sym (completed_by r t front)

  -- has L bytes
  pub datagram_length : length (datagram_in (layout_of r t) (given i readings v)) ≡ length_in (layout_of r t)
  datagram_length =
      let e = ap length datagram_by in
      omega (
        arith,
        length-append front (in_bytes 4 (check32 front) ++ ending_bytes t),
        length-append (in_bytes 4 (check32 front)) (ending_bytes t),
        in_bytes_length 4 (check32 front),
        parts_length i readings v (parts_of r),
        ending_length t,
        length_parts r t,
      )

  -- and is put so
  module _ {b b1 : List ℕ} {n : ℕ} (room : length_in (layout_of r t) ≤ length b) (first : Put b 0 front b1 n) where
    pub check_room : n + 4 ≤ length b1
    check_room = omega (arith, first.place, put_length first, parts_length i readings v (parts_of r), length_parts r t)

    front_taken : take n b1 ≡ front
    front_taken = put_taken first (omega (arith, parts_length i readings v (parts_of r), length_parts r t))

    module _ {b2 : List ℕ} {m : ℕ} (second : Put b1 n (in_bytes 4 (check32 (take n b1))) b2 m) where
      pub ending_room : m + length (ending_bytes t) ≤ length b2
      ending_room =
          omega (
            arith,
            first.place,
            put_length first,
            second.place,
            put_length second,
            in_bytes_length 4 (check32 (take n b1)),
            parts_length i readings v (parts_of r),
            ending_length t,
            length_parts r t,
          )

      pub datagram_put : {b3 : List ℕ} {end : ℕ} → Put b2 m (ending_bytes t) b3 end → Put b 0 (datagram_in (layout_of r t) (given i readings v)) b3 end
      datagram_put {b3} {end} third =
          subst (λ (text : List ℕ). Put b 0 text b3 end) datagram_by
          (then_put first (then_put (subst (λ (l : List ℕ). Put b1 n (in_bytes 4 (check32 l)) b2 m) front_taken second) third))

-- ---- 15 and 16

-- no value of the identifier is tested
pub outside_any : (i j : ℕ) (ps : List Part) (readings : List (List ℤ)) (v : Values) → outside_in ps (given i readings v) ≡ outside_in ps (given j readings v)
unfolding outside_in given
outside_any i j ps readings v = refl

module _ (b : List ℕ) (i : ℕ) (r : Row) (t : Bool) (readings : List (List ℤ)) (v : Values) where
  abbrev l : Layout
  l = layout_of r t

  pub values_refused : outside_in (parts_of r) (given i readings v) ≡ true → (Err DatagramOutside ≡ answer_by b i l readings v) × (b ≡ buffer_of b i l readings v)
  unfolding answer_by buffer_of last_rules
  values_refused h = rw h (refl, refl)

  module _ (h : outside_in (parts_of r) (given i readings v) ≡ false) where
    pub room_refused : length b < length_in l → (Err DatagramRoom ≡ answer_by b i l readings v) × (b ≡ buffer_of b i l readings v)
    unfolding answer_by buffer_of last_rules
    room_refused s = rw (h, lt-ltb (length b) (length_in l) s) (refl, refl)

    pub datagram_written : {b1 : List ℕ} {n : ℕ} → length_in l ≤ length b → Put b 0 (datagram_in l (given i readings v)) b1 n
        → (Ok n ≡ answer_by b i l readings v) × (b1 ≡ buffer_of b i l readings v)
    unfolding answer_by buffer_of last_rules
    datagram_written s p =
        let long = datagram_length i r t readings v in
        rw (h, le-ltb (length b) (length_in l) s)
        (ap Ok (p.place ∙ zero-add (length (datagram_in l (given i readings v))) ∙ long), p.bytes ∙ put_front b (datagram_in l (given i readings v)) (omega arith))

-- ---- a setup

module _ (b : List ℕ) (u : Setup) (readings : List (List ℤ)) (v : Values) where
  pub setup_refused : {e : Refusal} → ruling_on u ≡ Err e → (Err e ≡ made_answer b u readings v) × (b ≡ made_buffer b u readings v)
  unfolding made_answer made_buffer making_ruling making_rules ruling_on
  setup_refused {e} q =
      let r : making_ruling b u readings v ≡ Err e =
      first_refused (setup_rules u) (own_rules u readings v (length b)) q in
      rw r (refl, refl)

  -- an accepted one is judged by 15 and 16 alone
  module _ (e : ruling_on u ≡ Ok tt) where
    abbrev s : Sensor
    s = sensor_of u

    last_ruling : first_of (last_rules b s.identifier (layout_of s.row s.terminated) readings v) ≡ making_ruling b u readings v
    unfolding making_ruling making_rules own_rules last_rules ruling_on sensor_of
    last_ruling =
        let h = sensor_row u e in
        rw (first_accepted (setup_rules u) (own_rules u readings v (length b)) e, row_outside u h readings v, listed_length u h)

    sensor_answer : answer_by b s.identifier (layout_of s.row s.terminated) readings v ≡ made_answer b u readings v
    unfolding answer_by made_answer sensor_of
    sensor_answer = ap₂ (λ (j : Ruling) (n : ℕ). unless_refused j n) last_ruling (sym (listed_length u (sensor_row u e)))

    sensor_buffer : buffer_of b s.identifier (layout_of s.row s.terminated) readings v ≡ made_buffer b u readings v
    unfolding buffer_of made_buffer sensor_of
    sensor_buffer = ap₂ (λ (j : Ruling) (d : List ℕ). buffer_by j d b) last_ruling (sym (row_datagram u (sensor_row u e) readings v))

  -- the setup first, and then the values and the room
  abbrev buffer_with : Result Sensor Refusal → List ℕ
  buffer_with (Ok w) = buffer_of b w.identifier (layout_of w.row w.terminated) readings v
  buffer_with (Err e) = b

  pub made_in_turn :
      made_answer b u readings v ≡ and_then (description_of u) (λ (w : Sensor). answer_by b w.identifier (layout_of w.row w.terminated) readings v)
  unfolding description_of
  made_in_turn = by (ruling_on u) refl
    where
      by :
          (j : Ruling) → ruling_on u ≡ j
          → made_answer b u readings v ≡ and_then (unless_refused j (sensor_of u)) (λ (w : Sensor). answer_by b w.identifier (layout_of w.row w.terminated) readings v)
      by (Ok tt) q = sym (sensor_answer q)
      by (Err e) q = sym (setup_refused q).0

  pub buffer_in_turn : made_buffer b u readings v ≡ buffer_with (description_of u)
  unfolding description_of
  buffer_in_turn = by (ruling_on u) refl
    where
      by : (j : Ruling) → ruling_on u ≡ j → made_buffer b u readings v ≡ buffer_with (unless_refused j (sensor_of u))
      by (Ok tt) q = sym (sensor_buffer q)
      by (Err e) q = sym (setup_refused q).1
