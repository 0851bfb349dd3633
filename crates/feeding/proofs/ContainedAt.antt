-- What a session keeps after datagrams, and so what comes back with the datagram at a place: its own fields and judgements, and the gap to the one before it.
-- Assumes nothing.
use Prim.Native.Nat.{ℕ, zero, suc, ◌+◌, ◌-◌, ◌<◌}
use mathlib.Core.Path.{◌≡◌, refl, sym, ap, ◌∙◌, subst}
use mathlib.Core.Bool.{Bool}
use mathlib.Core.List.{List, [], ◌∷◌}
use native.Mathlib.Omega.{arith}
use lib.Dec.{eqb}
use lib.ListN.{length, take, get_or}
use lib.Seq.{length-take-le}
use Rattle.setup.specs.Setup.{ruling_on}
use Rattle.setup.specs.declared.Setup.{Setup}
use Rattle.setup.specs.Sensor.{sensor_of}
use Rattle.wire.specs.Fields.{Contents, contents_of, fields_of}
use Rattle.wire.proofs.FieldBytes.{sensor_fields}
use Rattle.gaps.specs.Gaps.{missed_at}
use Rattle.scan.specs.Carry.{steps, carried_after}
use Rattle.scan.proofs.CarryLaws.{told_at}
use Rattle.feeding.specs.Feed.{history_after, consumer, no_datagram}
use Rattle.feeding.proofs.DatagramLaws.{contained_told}
use Rattle.history.specs.History.{no_history, awaits_first, history_next}
use Rattle.history.specs.declared.History.{History}
use Rattle.feeding.specs.Promises.{answers_for, Contained}
use Rattle.std.specs.Prelude.{Ok}

pred_suc : (n : ℕ) → suc n - 1 ≡ n
pred_suc n = omega arith

module _ (u : Setup) where
  -- how many datagrams were handed out
  pub carried_datagrams : (x : History) (ds : List (List ℕ)) → (carried_after (consumer u) x ds).datagrams.0 ≡ x.datagrams.0 + length ds
  unfolding carried_after history_after history_next
  carried_datagrams x [] = omega arith
  carried_datagrams x (d ∷ ds) = omega (arith, carried_datagrams (steps (consumer u) x d) ds)

  -- the counter of the last one
  carried_previous :
      (x : History) (ds : List (List ℕ)) (i : ℕ) → i < length ds
      → (carried_after (consumer u) x (take (suc i) ds)).previous ≡ (contents_of (sensor_of u).row (get_or ds i [])).counter
  unfolding carried_after history_after history_next
  carried_previous x [] i h = absurd (omega arith)
  carried_previous x (d ∷ ds) zero h = refl
  carried_previous x (d ∷ ds) (suc i) h = carried_previous (steps (consumer u) x d) ds i (omega arith)

  module _ (ok : ruling_on u ≡ Ok tt) (es : List (List ℕ)) (i : ℕ) (l : i < length es) where
    abbrev before : History
    before = carried_after (consumer u) no_history (take i es)

    first_at : awaits_first before ≡ eqb i 0
    first_at =
        let n : (carried_after (consumer u) no_history (take i es)).datagrams.0 ≡ i =
        omega (arith, carried_datagrams no_history (take i es), length-take-le i es (omega arith))
        in
        ap (λ (n : ℕ). eqb n 0) n

    abbrev now : Contents
    now = fields_of u.identifier (get_or es i [])

    abbrev earlier : ℕ
    earlier = (fields_of u.identifier (get_or es (i - 1) [])).counter

    -- the counter of the one before
    gap_at : missed_at u.rate (eqb i 0) before.previous now.counter ≡ missed_at u.rate (eqb i 0) earlier now.counter
    unfolding missed_at
    gap_at = by i l
      where
        by :
            (n : ℕ) → n < length es
            → missed_at u.rate (eqb n 0) (carried_after (consumer u) no_history (take n es)).previous now.counter
            ≡ missed_at u.rate (eqb n 0) (fields_of u.identifier (get_or es (n - 1) [])).counter now.counter
        by zero h = refl
        by (suc n) h =
            ap (λ (k : ℕ). missed_at u.rate (eqb (suc n) 0) k now.counter)
            (carried_previous no_history es n (omega arith) ∙ ap (λ (c : Contents). c.counter) (sym (sensor_fields u (get_or es n []) ok)))
            ∙ ap (λ (m : ℕ). missed_at u.rate (eqb (suc n) 0) (fields_of u.identifier (get_or es m [])).counter now.counter) (sym (pred_suc n))

    pub contained_at : Contained u (eqb i 0) earlier (get_or es i []) (get_or (answers_for u es) i no_datagram)
    contained_at =
        let c = contained_told u ok before (get_or es i []) in
        subst (Contained u (eqb i 0) earlier (get_or es i [])) (sym (told_at (consumer u) no_history es i no_datagram l))
        (record {
          readings = c.readings;
          fields = c.fields;
          flags = c.flags;
          judgements = c.judgements;
          gap = c.gap ∙ ap (λ (b : Bool). missed_at u.rate b before.previous now.counter) first_at ∙ gap_at;
        })
