-- A number from 1000 on, put into a buffer: its last three digits behind those of its thousands.
use mathlib.Core.Path.{sym, subst}
use mathlib.Core.List.{List, ◌++◌}
use Prim.Native.Nat.{ℕ, ◌+◌, ◌/◌, ◌%◌, ◌≤◌}
use lib.ListN.{length}
use Rattle.integers.specs.Buffers.{Put}
use Rattle.integers.proofs.Buffers.{then_put, room_then, room_first}
use Rattle.shown_line.specs.Decimal.{digits, last_three}
use Rattle.shown_line.proofs.Digits.{digits_more}

module _ (n : ℕ) (h : 1000 ≤ n) where
  room_parts : (at : ℕ) {size : ℕ} → at + length (digits n) ≤ size → at + length (digits (n / 1000) ++ last_three (n % 1000)) ≤ size
  room_parts at {size} room = subst (λ (ds : List ℕ). at + length ds ≤ size) (digits_more n h) room

  pub room_thousands : (at : ℕ) {size : ℕ} → at + length (digits n) ≤ size → at + length (digits (n / 1000)) ≤ size
  room_thousands at room = room_first at (digits (n / 1000)) (last_three (n % 1000)) (room_parts at room)

  module _ {b b1 : List ℕ} {at mid : ℕ} (p : Put b at (digits (n / 1000)) b1 mid) where
    pub room_three : at + length (digits n) ≤ length b → mid + 3 ≤ length b1
    room_three room = room_then p (last_three (n % 1000)) (room_parts at room)

    pub then_three : {b2 : List ℕ} {end : ℕ} → Put b1 mid (last_three (n % 1000)) b2 end → Put b at (digits n) b2 end
    then_three {b2} {end} q = subst (λ (ds : List ℕ). Put b at ds b2 end) (sym (digits_more n h)) (then_put p q)
