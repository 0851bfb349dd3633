-- What is written is accepted, read as the same fields and handed out with them; what is accepted is written again as the same bytes. Assumes nothing.
use Prim.Native.Nat.{ℕ, ◌+◌, ◌≤◌, ◌<◌}
use native.Mathlib.Omega.{arith}
use mathlib.Core.Bool.{true, false}
use mathlib.Core.List.{List, [], ◌∷◌, ◌++◌, map, append-nil}
use mathlib.Core.Option.{none}
use mathlib.Core.Path.{◌≡◌, refl, sym, ap, ap₂, subst, ◌∙◌}
use lib.ListN.{length, take, drop, length-append}
use lib.Seq.{take_all, take-length, length-take-le}
use Rattle.integers.specs.Bytes.{joined}
use Rattle.integers.proofs.Booleans.{and_true}
use Rattle.integers.proofs.Bytes.{all_are_bytes}
use Rattle.setup.specs.Layout.{parts_at}
use Rattle.setup.specs.Setup.{ruling_on, length_of}
use Rattle.setup.specs.declared.Setup.{Setup}
use Rattle.setup.proofs.Refusals.{accepted_length}
use Rattle.wire.specs.Fields.{Contents, fields_of}
use Rattle.acceptance.specs.Acceptable.{acceptable}
use Rattle.made_datagram.specs.Making.{outside, field_values, values_read, made_number, made_bytes, made_answer, made_buffer}
use Rattle.made_datagram.specs.RoundTrip.{Shaped, RoundTrip}
use Rattle.made_datagram.proofs.RoundTrips.{contents_shaped, round_trip}
use Rattle.made_datagram.proofs.MadeLaws.{made_whole, made_enough}
use Rattle.scan.specs.Calls as calls
use Rattle.scan.specs.Stream.{Begins, Among, end, then}
use Rattle.search.specs.Search.{is_datagram, limits_of}
use Rattle.search.proofs.Datagrams.{datagram_parts, datagram_length, lawful}
use Rattle.session.specs.declared.Session.{Session}
use Rattle.admission.specs.Admission.{held_bytes}
use Rattle.admission.specs.SoundSession.{PassesTen}
use Rattle.feeding.specs.declared.Answer.{Answer}
use Rattle.feeding.specs.declared.Answer.TheVariants.{Datagram as HandedOut, Waiting, Refused}
use Rattle.feeding.specs.Feed.{feed_of, call, answer_of}
use Rattle.feeding.specs.Promises.{CallHands, CallWaits}
use Rattle.feeding.proofs.Demands.{every_call}
use Rattle.promises.specs.MadeHere.{Given, made_of, ComesBack, MadeHere}
use Rattle.std.specs.Prelude.{Ok}

module _ (u : Setup) (ok : ruling_on u ≡ Ok tt) where
  trip : RoundTrip u
  trip = round_trip u ok

  made_datagram_lem : (g : Given u) → is_datagram u (made_of g) ≡ true
  unfolding is_datagram
  made_datagram_lem g = let w = trip.written g.readings g.values g.inside in and_true (all_are_bytes (made_of g) w.0) w.1

  made_long : (g : Given u) → length (made_of g) ≡ length_of u
  made_long g = (trip.written g.readings g.values g.inside).2

  again_shaped : (d : List ℕ) → Shaped (fields_of u.identifier d).readings (values_read (fields_of u.identifier d))
  unfolding fields_of
  again_shaped d = contents_shaped (parts_at u.identifier) d

  again_inside : (d : List ℕ) → is_datagram u d ≡ true → outside u (fields_of u.identifier d).readings (values_read (fields_of u.identifier d)) ≡ false
  again_inside d good = let p = datagram_parts u d good in trip.passes d p.0 p.1

  written_again : (d b : List ℕ) → is_datagram u d ≡ true → length_of u ≤ length b
      → let readings = (fields_of u.identifier d).readings in
      let values = values_read (fields_of u.identifier d) in
      (made_number (made_answer b u readings values) ≡ none) × (made_bytes (made_answer b u readings values) ≡ length_of u)
      × (made_buffer b u readings values ≡ d ++ drop (length_of u) b)
  written_again d b good room =
      let readings = (fields_of u.identifier d).readings in
      let values = values_read (fields_of u.identifier d) in
      let p = datagram_parts u d good in
      let a = made_enough b u readings values ok (again_inside d good) room in
      let same = trip.again d p.0 p.1 in
      let w = made_whole b u readings values (ap made_number a) in (
        ap made_number a,
        ap made_bytes a,
        w.2 ∙ ap₂ (λ (x : List ℕ) (n : ℕ). x ++ drop n b) same (ap length same ∙ datagram_length u d good),
      )

  -- ---- fed

  module _ (g : Given u) (s : Session) (ten : PassesTen s) (same : s.setup ≡ u) (none-held : s.count ≡ 0) (room : s.fed + length_of u ≤ (limits_of u).session) where
    abbrev d : List ℕ
    d = made_of g

    held_none : held_bytes s ≡ []
    held_none = ap (λ (n : ℕ). take n s.held) none-held

    good : is_datagram s.setup d ≡ true
    good = subst (λ (x : Setup). is_datagram x d ≡ true) (sym same) (made_datagram_lem g)

    long : length d ≡ length_of s.setup
    long = made_long g ∙ ap length_of (sym same)

    bounds : (18 ≤ length d) × (length d ≤ 65)
    bounds = let l = accepted_length u ok in let m = made_long g in (omega arith, omega arith)

    -- it begins where the bytes held and the piece do
    here : Begins (is_datagram s.setup) (held_bytes s ++ d)
    here =
        rw held_none
        (record { size = length d; some = omega (arith, bounds); there = omega arith; made = ap (is_datagram s.setup) (take-length d) ∙ good })

    no_wait : CallWaits s d (feed_of s d) → ⊥
    no_wait w = by w.over w.bytes w.none_begins
      where
        by : (over : List ℕ) → held_bytes s ++ d ≡ over ++ held_bytes (feed_of s d).session
            → ((k : ℕ) → k < length over → Begins (is_datagram s.setup) (drop k (held_bytes s ++ d)) → ⊥) → ⊥
        by [] e h =
            let kept : held_bytes (feed_of s d).session ≡ d = sym e ∙ ap (λ (l : List ℕ). l ++ d) held_none in
            let l = (lawful s.setup (ap ruling_on same ∙ ok)).holds in
            let short = l.shorter (held_bytes (feed_of s d).session) (l.undecided (held_bytes (feed_of s d).session) w.undecided) in
            omega (arith, ap length kept, long)
        by (x ∷ over) e h = h 0 (omega arith) here

    handed : (call s d).answer ≡ calls.datagram (feed_of s d).datagram
    handed = by (feed_of s d).answer refl
      where
        by : (a : Answer) → (feed_of s d).answer ≡ a → answer_of (feed_of s d).answer (feed_of s d).datagram ≡ calls.datagram (feed_of s d).datagram
        by HandedOut e = ap (λ (a : Answer). answer_of a (feed_of s d).datagram) e
        by Waiting e = absurd (no_wait (every_call.waits s ten d (ap (λ (a : Answer). answer_of a (feed_of s d).datagram) e)))
        by (Refused n) e =
            absurd
            (every_call.no_other s d ten (omega (arith, bounds)) (omega (arith, long, ap length_of same)) n
            (ap (λ (a : Answer). answer_of a (feed_of s d).datagram) e))

    hands : CallHands s d (feed_of s d)
    hands = every_call.hands s ten d handed

    -- nothing is passed over, so that it is the datagram found
    none_over : hands.over ≡ []
    none_over = by hands.over hands.none_begins
      where
        by : (over : List ℕ) → ((k : ℕ) → k < length over → Begins (is_datagram s.setup) (drop k (held_bytes s ++ d)) → ⊥) → over ≡ []
        by [] h = refl
        by (x ∷ over) h = absurd (h 0 (omega arith) here)

    found_first : take (feed_of s d).taken d ≡ hands.found ++ held_bytes (feed_of s d).session
    found_first = ap (λ (l : List ℕ). l ++ take (feed_of s d).taken d) (sym held_none) ∙ hands.bytes ∙ ap (λ (l : List ℕ). l ++ (hands.found ++ held_bytes (feed_of s d).session)) none_over

    all_taken : (feed_of s d).taken ≡ length d
    all_taken =
        omega (
          arith,
          hands.taken,
          length-take-le (feed_of s d).taken d hands.taken,
          ap length found_first,
          length-append hands.found (held_bytes (feed_of s d).session),
          datagram_length s.setup hands.found hands.acceptable,
          long,
        )

    held_after : (feed_of s d).session.count ≡ 0
    held_after = (every_call.one_length_lem.last_byte s ten d handed).1

    found_it : hands.found ≡ d
    found_it =
        sym (append-nil hands.found)
        ∙ ap (λ (l : List ℕ). hands.found ++ l) (sym (ap (λ (n : ℕ). take n (feed_of s d).session.held) held_after))
        ∙ sym found_first
        ∙ take_all (feed_of s d).taken d (omega (arith, all_taken))

    told : fields_of s.setup.identifier hands.found ≡ fields_of u.identifier d
    told = ap₂ (λ (x : Setup) (l : List ℕ). fields_of x.identifier l) same found_it

    comes_back : ComesBack g (feed_of s d)
    comes_back =
        let r = trip.read g.readings g.values g.shaped g.inside in
        record {
          taken = all_taken ∙ made_long g;
          held = held_after;
          readings = hands.contained.readings ∙ ap (λ (c : Contents). c.readings) told ∙ r.0;
          values = ap field_values hands.contained.fields ∙ ap values_read told ∙ r.1;
        }

  -- ---- a capture

  captured : (gs : List (Given u)) → Among (is_datagram u) (joined (map made_of gs)) (map made_of gs)
  captured [] = end
  captured (g ∷ gs) = then (made_datagram_lem g) (captured gs)

  pub made_here : MadeHere u
  made_here =
      record {
        acceptable = λ g. (made_datagram_lem g, made_long g);
        read = λ g. trip.read g.readings g.values g.shaped g.inside;
        given_again = λ d good. (again_shaped d, again_inside d good);
        written_again = written_again;
        told_apart = λ d e good fine alike.
            let p = datagram_parts u d good in
            let q = datagram_parts u e fine in
            trip.told_apart d e p.0 q.0 p.1 q.1 alike;
        fed = λ g s ten same none-held room. (handed g s ten same none-held room, comes_back g s ten same none-held room);
        captured = captured;
      }
