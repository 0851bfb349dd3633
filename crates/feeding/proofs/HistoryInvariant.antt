-- What refusal 10 asks of what a session keeps stands at the start, and after every acceptable datagram.
-- Assumes nothing.
use Prim.Native.Nat.{ℕ, ◌+◌}
use mathlib.Core.Path.{◌≡◌, sym, subst}
use mathlib.Core.Bool.{Bool, true}
use mathlib.Core.List.{List}
use native.Mathlib.Nat.{mul-add, mul-one, mul-zero}
use native.Mathlib.Omega.{arith}
use lib.ListN.{length}
use Rattle.setup.specs.Setup.{ruling_on, length_of}
use Rattle.setup.specs.Sensor.{sensor_of}
use Rattle.setup.specs.declared.Setup.{Setup}
use Rattle.wire.specs.Fields.{fields_of}
use Rattle.wire.proofs.FieldRanges.{fields_fit}
use Rattle.motion.specs.Totals.{groups_kept}
use Rattle.scan.specs.Carry.{Invariant}
use Rattle.search.specs.Search.{is_datagram}
use Rattle.history.specs.History.{no_history, history_next}
use Rattle.history.specs.declared.History.{History}
use Rattle.feeding.specs.Feed.{history_after, history_right, consumer}
use Rattle.admission.proofs.KeptLaws.{kept_step_lem, kept_none}
use Rattle.search.proofs.Datagrams.{datagram_length, datagram_parts}
use Rattle.feeding.proofs.BySetup.{after_datagram}
use Rattle.feeding.proofs.Refinement.{history_parts, parts_history}
use Rattle.std.specs.Prelude.{Ok}

module _ (u : Setup) (ok : ruling_on u ≡ Ok tt) where
  start_right_lem : history_right u 0 no_history ≡ true
  start_right_lem = parts_history u 0 no_history (omega (arith, mul-zero (length_of u))) (kept_none (groups_kept u))

  next_right :
      (n : ℕ) (x : History) (first : Bool) (d : List ℕ) → is_datagram u d ≡ true → history_right u n x ≡ true
      → history_right u (n + length d) (history_after (sensor_of u) first x d) ≡ true
  unfolding history_next
  next_right n x first d a e =
      let p = history_parts u n x e in
      let c = fields_of u.identifier d in
      let l : length d ≡ length_of u = datagram_length u d a in
      let h = history_next u.rate (groups_kept u) first x c.readings c.statuses c.counter in
      let k = kept_step_lem u.rate (groups_kept u) first x c.readings c.statuses c.counter (fields_fit u.identifier d (datagram_parts u d a).0).readings p.1 in
      subst (λ (y : History). history_right u (n + length d) y ≡ true) (sym (after_datagram u ok first x d))
      (parts_history u (n + length d) h (omega (arith, p.0, mul-add (length_of u) x.datagrams.0 1, mul-one (length_of u))) k)

  pub history_invariant : Invariant (consumer u) (is_datagram u)
  history_invariant = record { at_start = start_right_lem; at_step = λ n x d a e. next_right n x _ d a e }
