use native.Mathlib.Omega.{arith}
use Prim.Native.Nat.{ℕ, ◌+◌, ◌≤◌}
use mathlib.Core.List.{List, ◌++◌}
use mathlib.Core.Path.{◌≡◌, ap, subst, ◌∙◌}
use lib.IntN.{ℤ, pos}
use lib.ListN.{length, length-append}
use mir.Syntax.{w32}
use mir.Val.{SFits, of_z, to_z}
use mir.ValLaws.{to_z_pos}
use Rattle.integers.specs.Buffers.{Put}
use Rattle.integers.specs.Bytes.{value_bytes}
use Rattle.integers.proofs.Buffers.{then_put, room_first, room_then}
use Rattle.integers.proofs.Values.{value_bytes_length}
use Rattle.setup.specs.Layout.{bytes, parts_of}
use Rattle.setup.proofs.Layouts.{before_range}
use Rattle.made_datagram.specs.Making.{given, parts_with}
use Rattle.making.specs.Writing.{groups_bytes, temperatures_bytes, aux_bytes}
use Rattle.made_datagram.proofs.PartValues.{parts_length}
use Rattle.making.proofs.PartWriting.{put_passed, room_passed, parts_in_turn}
use Rattle.setup.specs.declared.Row.{Row}
use Rattle.made_datagram.specs.declared.Values.{Values}
use Rattle.making.proofs.put_parts.Goals as goal
use Rattle.making.proofs.put_parts.Goals.{After-put_aux-counter, After-put_value-groups, After-put_value-latency}

-- the parts as they are put, and what stands behind each
module _ (i : ℕ) (row : Row) (readings : List (List ℤ)) (v : Values) where
  abbrev identifier : List ℕ
  identifier = value_bytes 1 (pos i)

  abbrev groups : List ℕ
  groups = groups_bytes row readings v.statuses

  abbrev temperatures : List ℕ
  temperatures = temperatures_bytes row v

  abbrev voltage : List ℕ
  voltage = aux_bytes row.aux v.aux v.aux_status

  abbrev counter : List ℕ
  counter = value_bytes 1 v.counter

  abbrev latency : List ℕ
  latency = value_bytes 2 v.latency

  abbrev behind_aux : List ℕ
  behind_aux = counter ++ latency

  abbrev behind_temperatures : List ℕ
  behind_temperatures = voltage ++ behind_aux

  abbrev behind_groups : List ℕ
  behind_groups = temperatures ++ behind_temperatures

  abbrev behind_identifier : List ℕ
  behind_identifier = groups ++ behind_groups

  module _ (b : List ℕ) (enough : bytes (parts_of row) ≤ length b) where
    room : 0 + length (identifier ++ behind_identifier) ≤ length b
    room =
        let e : length (identifier ++ behind_identifier) ≡ bytes (parts_of row) =
        ap length (parts_in_turn i readings v row) ∙ parts_length i readings v (parts_of row) in
        omega (arith, enough)

    -- each where the one before it ends, and the room behind it
    module _ {b1 : List ℕ} {n1 : ℕ} (first : Put b 0 identifier b1 n1) where
      room_first_lem : n1 + length behind_identifier ≤ length b1
      room_first_lem = room_then first behind_identifier room

      module _ {b2 : List ℕ} {n2 : ℕ} (second : Put b1 n1 groups b2 n2) where
        room_second : n2 + length behind_groups ≤ length b2
        room_second = room_then second behind_groups room_first_lem

        module _ {b3 : List ℕ} {n3 : ℕ} (third : Put b2 n2 temperatures b3 n3) where
          room_third : n3 + length behind_temperatures ≤ length b3
          room_third = room_then third behind_temperatures room_second

          module _ {b4 : List ℕ} {n4 : ℕ} (fourth : Put b3 n3 voltage b4 n4) where
            room_fourth : n4 + length behind_aux ≤ length b4
            room_fourth = room_then fourth behind_aux room_third

            module _ {b5 : List ℕ} {n5 : ℕ} (fifth : Put b4 n4 counter b5 n5) where
              room_fifth : n5 + length latency ≤ length b5
              room_fifth = room_then fifth latency room_fourth

              -- all of them
              whole : {b6 : List ℕ} {n6 : ℕ} → Put b5 n5 latency b6 n6 → Put b 0 (parts_with (given i readings v) (parts_of row)) b6 n6
              whole {b6} {n6} sixth =
                  subst (λ (text : List ℕ). Put b 0 text b6 n6) (parts_in_turn i readings v row)
                  (then_put first (then_put second (then_put third (then_put fourth (then_put fifth sixth)))))

-- what the identifier, AUX and the counter are put as, by what the callees got
identifier_put : (c : After-put_value-groups) → Put c.args.buffer.now 0 (identifier c.args.identifier c.args.row c.args.readings c.args.values) c.put_value-groups.new.buffer c.put_value-groups.result
identifier_put c = rw (to_z_pos w32 c.args.identifier (omega arith)) at c.put_value-groups.ensures

voltage_put :
    (c : After-put_aux-counter)
    → Put c.put_temperatures-aux.new.buffer c.put_temperatures-aux.result (voltage c.args.identifier c.args.row c.args.readings c.args.values) c.put_aux-counter.new.buffer c.put_aux-counter.result
voltage_put c =
    let v = c.args.values in
    let value : SFits w32 v.aux = record { sfits = omega arith } in
    let status : SFits w32 v.aux_status = record { sfits = omega arith } in
    put_passed (λ (z : ℤ). aux_bytes c.args.row.aux z v.aux_status) v.aux value
    (put_passed (aux_bytes c.args.row.aux _) v.aux_status status c.put_aux-counter.ensures)

counter_put :
    (c : After-put_value-latency)
    → Put c.put_aux-counter.new.buffer c.put_aux-counter.result (counter c.args.identifier c.args.row c.args.readings c.args.values) c.put_value-latency.new.buffer c.put_value-latency.result
counter_put c =
    let v = c.args.values in
    let number : SFits w32 v.counter = record { sfits = omega arith } in
    put_passed (value_bytes 1) v.counter number c.put_value-latency.ensures

pub put_value-groups-requires : goal.put_value-groups-requires
put_value-groups-requires c = (omega arith, omega arith, omega (arith, c.requires, before_range c.args.row))

pub put_groups-temperatures-requires : goal.put_groups-temperatures-requires
put_groups-temperatures-requires c =
    let first = identifier_put (goal.at.put_groups-temperatures-requires c).After-put_value-groups in
    room_first c.put_value-groups.result (groups c.args.identifier c.args.row c.args.readings c.args.values) (behind_groups c.args.identifier c.args.row c.args.readings c.args.values) (room_first_lem c.args.identifier c.args.row c.args.readings c.args.values c.args.buffer.now c.requires first)

pub put_temperatures-aux-requires : goal.put_temperatures-aux-requires
put_temperatures-aux-requires c =
    let first = identifier_put (goal.at.put_temperatures-aux-requires c).After-put_value-groups in
    room_first c.put_groups-temperatures.result (temperatures c.args.identifier c.args.row c.args.readings c.args.values) (behind_temperatures c.args.identifier c.args.row c.args.readings c.args.values)
    (room_second c.args.identifier c.args.row c.args.readings c.args.values c.args.buffer.now c.requires first c.put_groups-temperatures.ensures)

pub put_aux-counter-requires : goal.put_aux-counter-requires
put_aux-counter-requires c =
    let r = c.args.row in
    let v = c.args.values in
    let at = c.put_temperatures-aux.result in
    let value : SFits w32 v.aux = record { sfits = omega arith } in
    let status : SFits w32 v.aux_status = record { sfits = omega arith } in
    let first = identifier_put (goal.at.put_aux-counter-requires c).After-put_value-groups in
    room_passed (aux_bytes r.aux (to_z w32 (of_z w32 v.aux))) v.aux_status at status
    (room_passed (λ (z : ℤ). aux_bytes r.aux z v.aux_status) v.aux at value
    (room_first at (voltage c.args.identifier c.args.row c.args.readings c.args.values) (behind_aux c.args.identifier c.args.row c.args.readings c.args.values) (room_third c.args.identifier c.args.row c.args.readings c.args.values c.args.buffer.now c.requires first c.put_groups-temperatures.ensures c.put_temperatures-aux.ensures)))

pub put_value-latency-requires : goal.put_value-latency-requires
put_value-latency-requires c =
    let first = identifier_put (goal.at.put_value-latency-requires c).After-put_value-groups in
    let fourth = voltage_put (goal.at.put_value-latency-requires c).After-put_aux-counter in
    let h = room_fourth c.args.identifier c.args.row c.args.readings c.args.values c.args.buffer.now c.requires first c.put_groups-temperatures.ensures c.put_temperatures-aux.ensures fourth in
    (omega arith, omega arith, omega (arith, length-append (counter c.args.identifier c.args.row c.args.readings c.args.values) (latency c.args.identifier c.args.row c.args.readings c.args.values), value_bytes_length 1 c.args.values.counter))

pub put_value-requires : goal.put_value-requires
put_value-requires c =
    let first = identifier_put (goal.at.put_value-requires c).After-put_value-groups in
    let fourth = voltage_put (goal.at.put_value-requires c).After-put_aux-counter in
    let fifth = counter_put (goal.at.put_value-requires c).After-put_value-latency in
    let h = room_fifth c.args.identifier c.args.row c.args.readings c.args.values c.args.buffer.now c.requires first c.put_groups-temperatures.ensures c.put_temperatures-aux.ensures fourth fifth in
    (omega arith, omega arith, omega (arith, value_bytes_length 2 c.args.values.latency))

pub returns : goal.returns
returns c =
    let v = c.args.values in
    let late : SFits w32 v.latency = record { sfits = omega arith } in
    let first = identifier_put (goal.at.returns c).After-put_value-groups in
    let fourth = voltage_put (goal.at.returns c).After-put_aux-counter in
    let fifth = counter_put (goal.at.returns c).After-put_value-latency in
    whole c.args.identifier c.args.row c.args.readings c.args.values c.args.buffer.now c.requires first c.put_groups-temperatures.ensures c.put_temperatures-aux.ensures fourth fifth
    (put_passed (value_bytes 2) v.latency late c.put_value.ensures)
