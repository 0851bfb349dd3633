-- How many bytes the lines of a piece have at most. Assumes nothing.
use Prim.Native.Nat.{ℕ, ◌+◌, ◌*◌, ◌≤◌}
use mathlib.Core.Path.{◌≡◌, ap}
use mathlib.Core.Bool.{true}
use mathlib.Core.List.{List, ◌++◌}
use native.Mathlib.Nat.{mul-add, mul-one}
use native.Mathlib.Omega.{arith}
use lib.ListN.{length, length-append}
use Rattle.setup.specs.Setup.{ruling_on, length_of}
use Rattle.setup.specs.declared.Setup.{Setup}
use Rattle.setup.proofs.Refusals.{accepted_length}
use Rattle.shown_line.specs.ShownLine.{longest_line}
use Rattle.scan.specs.Stream.{Among, end, other, then}
use Rattle.scan.specs.Carry.{steps, told}
use Rattle.search.specs.Search.{is_datagram, limits_of}
use Rattle.search.proofs.Datagrams.{datagram_length, among_found}
use Rattle.history.specs.History.{history_next}
use Rattle.history.specs.declared.History.{History}
use Rattle.admission.specs.Admission.{held_bytes, kept_right, piece_ruling}
use Rattle.admission.proofs.Soundness.{sound_facts}
use Rattle.admission.proofs.PieceRulings.{admitted}
use Rattle.session.specs.declared.Session.{Session}
use Rattle.feeding.specs.Feed.{history_after, consumer, state_of}
use Rattle.feeding.proofs.Refinement.{count_held}
use Rattle.feeding.proofs.CallParts.{count_less}
use Rattle.whole_piece.specs.Lines.{lines_after, lines_in, room_for, enough}
use Rattle.whole_piece.specs.NextLines.{next_line}
use Rattle.whole_piece.proofs.NextLines.{few_of, right_next, line_short, lines_more}
use Rattle.std.specs.Prelude.{Ok}

module _ (u : Setup) (ok : ruling_on u ≡ Ok tt) where
  -- each datagram of a stream has 18 bytes or more, and its line at most 307
  lines_longest :
      {v : List ℕ} {ds : List (List ℕ)} → Among (is_datagram u) v ds
      → (k : History) → kept_right u k ≡ true → length_of u * k.datagrams.0 + length v ≤ (limits_of u).session
      → (length (lines_after u k.datagrams.0 (told (consumer u) k ds)) ≤ longest_line * length ds) × (18 * length ds ≤ length v)
  unfolding lines_after told history_after history_next
  lines_longest end k right few = (omega arith, omega arith)
  lines_longest (other n a) k right few =
      let r = lines_longest a k right (omega arith) in
      (r.0, omega (arith, r.1))
  lines_longest (then {d = d} {u = v} {ds = ds} good a) k right few =
      let n = k.datagrams.0 in
      let next = steps (consumer u) k d in
      let all = length-append d v in
      let line = line_short u ok k d right good (omega (arith, few_of u ok n (length v) (omega (arith, few, all)))) in
      let r =
      lines_longest a next (right_next u ok k d right good)
      (omega (arith, few, all, datagram_length u d good, mul-add (length_of u) n 1, mul-one (length_of u))) in
      let text = lines_after u next.datagrams.0 (told (consumer u) next ds) in (
        omega (arith, ap length (lines_more u k d ds), length-append (next_line u k d) text, line, r.0),
        omega (arith, all, datagram_length u d good, (accepted_length u ok).0, r.1),
      )

-- the lines of a piece that feeding doesn't refuse fit a buffer of so many bytes
pub lines_fit : (s : Session) (p : List ℕ) → piece_ruling s (length p) ≡ Ok tt → length (lines_in s p) ≤ room_for (length p)
unfolding lines_in
lines_fit s p e =
    let A = admitted s (length p) e in
    let F = sound_facts s A.sound in
    let u = s.setup in
    let v = held_bytes s ++ p in
    let parted = among_found u F.accepted v in
    let held = count_held s F in
    let all = length-append (held_bytes s) p in
    let r = lines_longest u F.accepted parted (state_of s).carried F.kept (omega (arith, F.sum, A.session, held, all)) in
    omega (arith, r.0, r.1, held, all, count_less s F, (accepted_length u F.accepted).1)

-- which is no more than is enough for any piece
pub room_enough : (n : ℕ) → n ≤ 4096 → room_for n ≤ enough
room_enough n h = omega arith

pub room_admitted : (s : Session) (n : ℕ) → piece_ruling s n ≡ Ok tt → room_for n ≤ enough
room_admitted s n e = room_enough n (admitted s n e).piece

pub lines_enough : (s : Session) (p : List ℕ) → piece_ruling s (length p) ≡ Ok tt → length (lines_in s p) ≤ enough
lines_enough s p e = omega (arith, lines_fit s p e, room_admitted s (length p) e)
