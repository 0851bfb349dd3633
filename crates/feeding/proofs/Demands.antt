-- Demands 2 and 3 of every setup that is not refused.
-- Assumes nothing.
use Prim.Native.Nat.{ℕ, suc, ◌+◌, ◌-◌, ◌*◌, ◌^◌, ◌≤◌, ◌<◌, min}
use mathlib.Core.Path.{◌≡◌, refl, sym, ap, ◌∙◌, subst}
use mathlib.Core.Bool.{Bool, true, false, cond}
use mathlib.Core.List.{List, [], ◌∷◌, ◌++◌, map}
use native.Mathlib.Omega.{arith}
use lib.IntN.{ℤ, pos, nat_abs, ◌-ℤ◌, ◌*ℤ◌}
use lib.Dec.{eqb}
use lib.Seq.{length-take-le}
use lib.ListN.{length, take, get_or, length-map}
use Rattle.integers.specs.Bytes.{joined}
use Rattle.integers.proofs.Buffers.{padded_front, get_or_map}
use Rattle.setup.specs.Setup.{ruling_number, ruling_on, length_of}
use Rattle.setup.specs.declared.Setup.{Setup}
use Rattle.setup.proofs.Rules.{number_accepted, number_refused}
use Rattle.wire.specs.Fields.{fields_of}
use Rattle.motion.specs.Totals as totals
use Rattle.motion.specs.Totals.{Sighting, keeps, axis_at, none, total_of, total_at, fit_readings, fit_before, reading_of}
use Rattle.motion.specs.declared.Axis.{Axis}
use Rattle.motion.specs.declared.Total.{Total}
use Rattle.motion.proofs.AcceptedSetup.{integrated_kept, other_not_kept}
use Rattle.motion.proofs.Bounds.{kept_after}
use Rattle.motion.proofs.TrueChange.{kept_at_each, carried_at, place_of}
use Rattle.doubt.specs.Doubt.{no_doubt, doubt_at, mark_at}
use Rattle.doubt.specs.declared.AxisDoubt.{AxisDoubt}
use Rattle.doubt.specs.Slipped.{Counted, samples_over, AllUnfit, TrueAngles, SampledAngles, FirstFit}
use Rattle.doubt.specs.Slipped as slipped
use Rattle.doubt.proofs.Sums.{doubt_after, marked_slipped, slipped_marks, kept_sum}
use Rattle.doubt.proofs.TrueAngle.{unmarked_stands, sampled_angles}
use Rattle.scan.specs.Scan.{scan}
use Rattle.scan.specs.Calls as calls
use Rattle.scan.specs.Calls.{Report}
use Rattle.scan.specs.Stream.{Among, Bare, NoTen}
use Rattle.scan.specs.Carry.{steps, carried_after, Delivered}
use Rattle.scan.proofs.AmongLaws.{among_scan}
use Rattle.scan.proofs.CarryLaws.{told_at, length_told, among_each, joined_least}
use Rattle.scan.proofs.RunLaws.{ready, always_run, always_delivered, run_one, fresh_safe}
use Rattle.scan.proofs.StreamLaws.{every_stream, reports_no_ten}
use Rattle.scan.proofs.OneLength.{joined_length, scan_bare}
use Rattle.search.specs.Search.{is_datagram, limits_of, rules_of, verdict_of}
use Rattle.search.proofs.Datagrams.{datagram_length, datagram_least, lawful, prompt, among_found}
use Rattle.motion.specs.Totals.{no_axis}
use Rattle.history.specs.History.{no_history}
use Rattle.history.specs.declared.History.{History}
use Rattle.session.specs.Session.{fresh_of, opening}
use Rattle.admission.specs.Admission.{is_sound, held_bytes}
use Rattle.admission.specs.SoundSession.{PassesTen}
use Rattle.session.specs.declared.Session.{Session}
use Rattle.session.specs.declared.Opened.{Opened}
use Rattle.feeding.specs.declared.Datagram.{Datagram}
use Rattle.feeding.specs.Feed.{consumer, SessionState, session_of, no_datagram, feed_of, Calls}
use Rattle.feeding.specs.OneLength.{OneLength}
use Rattle.feeding.specs.Promises.{stream_of, FedInTurn, answers_for, sighting, sightings, Contained, Exact, EveryCall, Demand2, Stands, Carry, Demand3}
use Rattle.feeding.specs.Promises.{counted_sighting, counted, DoubtfulTotals}
use Rattle.session.proofs.Opening.{opened, refused_opening}
use Rattle.admission.proofs.FreshSessions.{fresh_sound, zeros_unsound}
use Rattle.admission.proofs.TenLaws.{sound_ten, ten_sound, fails_ten}
use Rattle.feeding.proofs.Refinement.{SafeOf, session_sound}
use Rattle.feeding.proofs.HistoryInvariant.{history_invariant}
use Rattle.feeding.proofs.Agreement.{Like, StateRun, run_of_states, run_of_sessions}
use Rattle.feeding.proofs.EachCall.{not_refused, told_handed, told_refused, call_kept}
use Rattle.feeding.proofs.CallCases.{call_hands, call_waits}
use Rattle.feeding.proofs.DatagramLaws.{total_told, exact_told, no_datagram_zeros}
use Rattle.feeding.proofs.OneLength.{undecided_held, handed_last, empty_call}
use Rattle.feeding.proofs.CallParts.{fed_unsound, fed_over, fed_past}
use Rattle.feeding.proofs.ContainedAt.{carried_datagrams, contained_at}
use Rattle.feeding.proofs.AxisAt.{after_ruled, axis_then, total_then, then_bound, sighting_at, sightings_length, independent}
use Rattle.feeding.proofs.DoubtAt.{counted_sightings, doubt_kept, mark_unkept, mark_kept}
use Rattle.std.specs.Prelude.{Ok}

module _ (u : Setup) (ok : ruling_on u ≡ Ok tt) where
  -- the session that opening gives is that of the fresh state
  fresh_state : SessionState
  fresh_state = record { scan = calls.fresh; carried = no_history }

  opens : (opening u).session ≡ session_of u fresh_state
  unfolding fresh_of fresh_state
  opens = ap (λ (o : Opened). o.session) (opened u ok)

  fresh_state_safe : SafeOf u fresh_state
  unfolding fresh_state
  fresh_state_safe = fresh_safe (consumer u) (rules_of u) (lawful u ok) (history_invariant u ok)

  module _ {ps : List (List ℕ)} {os : List Datagram} {rs : List Report} {t : Session} (c : FedInTurn u ps os rs t) where
    state_run : (t' : SessionState) × Like u ok t' t × StateRun u ok fresh_state ps os rs t'
    state_run = run_of_sessions u ok (subst (λ (s : Session). Calls s ps os rs t) opens c) fresh_state_safe

    end_state : SessionState
    end_state = state_run.0

    delivered : Delivered (consumer u) (rules_of u) ps os rs end_state
    unfolding fresh_state end_state
    delivered =
        always_delivered (consumer u) (rules_of u) (lawful u ok) (history_invariant u ok) (prompt u ok).undecided state_run.2

    -- none begins among the bytes held at the end: so it is where all datagrams have one length; request 2.7 asks it of the stream
    bare : Bare (is_datagram u) end_state.scan.held
    bare = subst (Bare (is_datagram u)) (sym delivered.held) (scan_bare (rules_of u) (lawful u ok) (prompt u ok) (stream_of u ps))

    is_session : t ≡ session_of u end_state
    unfolding end_state
    is_session = state_run.1.same

    fed_stream : t.fed ≡ length (stream_of u ps)
    fed_stream = ap (λ (s : Session). s.fed) is_session ∙ delivered.fed

    answers : (es : List (List ℕ)) → Among (is_datagram u) (stream_of u ps) es → os ≡ answers_for u es
    answers es a = delivered.handed_out ∙ ap (answers_for u) (sym (delivered.only bare es a))

    handed_joined : (es : List (List ℕ)) → Among (is_datagram u) (stream_of u ps) es → end_state.scan.handed ≡ length (joined es)
    handed_joined es a = delivered.handed ∙ ap (λ (ds : List (List ℕ)). length (joined ds)) (sym (delivered.only bare es a))

    -- a session's bytes over 18 datagrams at most
    few : (es : List (List ℕ)) → Among (is_datagram u) (stream_of u ps) es → length es ≤ 2 ^ 30
    few es a = omega (arith, handed_joined es a, delivered.sum, most, joined_least 18 (datagram_least u) a)
      where
        most : end_state.scan.fed ≤ (limits_of u).session
        most = unfold end_state in state_run.1.safe.scan.most

    -- of one length, the bytes handed out are so many
    bytes_sum : length_of u * length os + t.passed + t.count ≡ t.fed
    bytes_sum =
        let es = delivered.datagrams in
        let a = delivered.among bare in
        let n : length os ≡ length es = ap length delivered.handed_out ∙ length_told (consumer u) no_history es in
        let h : length_of u * length os ≡ end_state.scan.handed =
        ap (λ (m : ℕ). length_of u * m) n ∙ sym (handed_joined es a ∙ joined_length (length_of u) (datagram_length u) a) in
        omega (
          arith,
          h,
          delivered.sum,
          ap (λ (s : Session). s.passed) is_session,
          ap (λ (s : Session). s.count) is_session,
          ap (λ (s : Session). s.fed) is_session,
        )

    -- ---- what comes back with the datagram at a place

    module _ (es : List (List ℕ)) (a : Among (is_datagram u) (stream_of u ps) es) (i : ℕ) (l : i < length es) (group axis : ℕ) (h : group < 3) (k : axis < 3) where
      -- the answer at the place, and the axis in it
      answer : get_or os i no_datagram ≡ get_or (answers_for u es) i no_datagram
      answer = ap (λ (l : List Datagram). get_or l i no_datagram) (answers es a)

      abbrev d : List ℕ
      d = get_or es i []

      abbrev before : History
      before = carried_after (consumer u) no_history (take i es)

      total_in_lem : total_at (get_or os i no_datagram).totals group axis ≡ total_of (axis_then u group axis ok h k es i)
      total_in_lem = ap (λ (o : Datagram). total_at o.totals group axis) answer ∙ total_then u group axis ok h k es i l

      same_total : (axis_at (steps (consumer u) before d).axes group axis).total ≡ (axis_then u group axis ok h k es i).total
      same_total =
          ap (λ (x : Total). x.steps)
          (sym (total_told u ok before d group axis h k)
          ∙ sym (ap (λ (o : Datagram). total_at o.totals group axis) (told_at (consumer u) no_history es i no_datagram l))
          ∙ total_then u group axis ok h k es i l)

      exact_at : Exact u d (get_or os i no_datagram) group axis
      exact_at =
          subst (λ (o : Datagram). Exact u d o group axis) (sym (answer ∙ told_at (consumer u) no_history es i no_datagram l))
          (exact_told u ok before d group axis h k (among_each a i l)
          (omega (arith, ap nat_abs same_total, then_bound u group axis ok h k es i l, few es a)))

      total_ruled :
          total_at (get_or os i no_datagram).totals group axis
          ≡ total_of (cond (keeps u group) (totals.after no_axis (take (suc i) (sightings u group axis es))) no_axis)
      total_ruled =
          let s = sightings u group axis es in
          total_in_lem
          ∙ ap total_of
          (after_ruled (keeps u group) (take (suc i) s)
          (omega (arith, few es a, length-take-le (suc i) s (omega (arith, sightings_length u group axis es)))))

      -- an axis that stands for a change is told so
      stands_told :
          (fine : ℕ) (t₀ t : ℤ) → totals.Stands fine t₀ t (axis_then u group axis ok h k es i) → Stands u group axis fine t₀ t (get_or os i no_datagram)
      stands_told fine t₀ t stands =
          let steps = ap (λ (x : Total). x.steps) total_in_lem in
          record {
            begun = ap (λ (x : Total). x.begun) total_in_lem ∙ stands.begun;
            exact = steps ∙ stands.exact;
            near = subst (λ (z : ℤ). nat_abs (z *ℤ pos fine -ℤ (t -ℤ t₀)) < fine) (sym steps) stands.near;
            double = exact_at.double;
          }

      -- ---- the change of the true value

      module _ (keep : keeps u group ≡ true) (fine : ℕ) (some : 0 < fine) (ts : List ℤ) (C : Carry fine (sightings u group axis es) ts)
          (fit : (sighting u group axis d).fit ≡ true) where
        ss : List Sighting
        ss = sightings u group axis es

        fit_there : (get_or ss i none).fit ≡ true
        unfolding ss
        fit_there = ap (λ (s : Sighting). s.fit) (sighting_at u group axis es i l) ∙ fit

        there : i < length ss
        unfolding ss
        there = omega (arith, sightings_length u group axis es)

        stands : totals.Stands fine (get_or ts 0 (pos 0)) (get_or ts (fit_before ss i) (pos 0)) (axis_then u group axis ok h k es i)
        unfolding ss
        stands =
            subst (totals.Stands fine (get_or ts 0 (pos 0)) (get_or ts (fit_before ss i) (pos 0)))
            (sym (ap (λ (b : Bool). kept_after b no_axis (take (suc i) ss)) keep))
            (kept_at_each fine some no_axis 0 refl (omega arith) ss ts (omega (arith, few es a, sightings_length u group axis es)) C.carried C.close
            i there fit_there)

        change_at :
            (n : ℕ) × (n ≡ fit_before (sightings u group axis es) i) × (n < length ts)
            × ((sighting u group axis d).reading ≡ reading_of fine (get_or ts n (pos 0)))
            × Stands u group axis fine (get_or ts 0 (pos 0)) (get_or ts n (pos 0)) (get_or os i no_datagram)
        unfolding ss
        change_at =
            let p = carried_at (reading_of fine) ss ts C.carried i there fit_there in (
              fit_before ss i,
              refl,
              p.0,
              ap (λ (s : Sighting). s.reading) (sym (sighting_at u group axis es i l)) ∙ p.1,
              stands_told fine (get_or ts 0 (pos 0)) (get_or ts (fit_before ss i) (pos 0)) stands,
            )

    -- ---- totals that may have slipped

    sum_kept :
        (es : List (List ℕ)) → Among (is_datagram u) (stream_of u ps) es → get_or u.units 0 0 ≡ 3 → (axis : ℕ) → axis < 3
        → (before : List Counted) (last : Counted) (behind : List Counted) → counted u axis es ≡ before ++ (last ∷ behind)
        → last.sighting.fit ≡ true → AllUnfit behind
        → (doubt_at t.history.doubt axis).samples.0 ≡ min (samples_over last.counter behind) 65535
    sum_kept es a three axis k before last behind e f x =
        let carried : t.history ≡ carried_after (consumer u) no_history es =
        ap (λ (s : Session). s.history) is_session
        ∙ delivered.carried
        ∙ ap (carried_after (consumer u) no_history) (sym (delivered.only bare es a)) in
        ap (λ (h : History). (doubt_at h.doubt axis).samples.0) carried
        ∙ ap (λ (q : AxisDoubt). q.samples.0) (doubt_kept u axis ok k es (integrated_kept u ok 0 (omega arith) three) (few es a))
        ∙ ap (λ (ds : List Counted). (doubt_after u.rate false true 0 no_doubt ds).samples.0) e
        ∙ kept_sum u.rate before last behind false true 0 no_doubt f x

    module _ (es : List (List ℕ)) (a : Among (is_datagram u) (stream_of u ps) es) (three : get_or u.units 0 0 ≡ 3) (axis : ℕ) (k : axis < 3) (i : ℕ) (l : i < length es) where
      abbrev mark : Bool
      mark = mark_at (get_or os i no_datagram).doubtful axis

      gyro_kept : keeps u 0 ≡ true
      gyro_kept = integrated_kept u ok 0 (omega arith) three

      marked_by : mark ≡ (doubt_after u.rate false true 0 no_doubt (take (suc i) (counted u axis es))).marked
      marked_by =
          ap (λ (os : List Datagram). mark_at (get_or os i no_datagram).doubtful axis) (answers es a)
          ∙ mark_kept u axis ok k es i l gyro_kept (few es a)

      -- the axis there, by 01's rule for one axis
      axis_ruled : axis_then u 0 axis ok (omega arith) k es i ≡ totals.after no_axis (take (suc i) (map (λ (c : Counted). c.sighting) (counted u axis es)))
      axis_ruled =
          let s = sightings u 0 axis es in
          after_ruled (keeps u 0) (take (suc i) s)
          (omega (arith, few es a, length-take-le (suc i) s (omega (arith, sightings_length u 0 axis es))))
          ∙ ap (λ (b : Bool). cond b (totals.after no_axis (take (suc i) s)) no_axis) gyro_kept
          ∙ ap (λ (s : List Sighting). totals.after no_axis (take (suc i) s)) (sym (counted_sightings u axis es))

      unmarked_at :
          (fine : ℕ) → 0 < fine → (angles : List ℤ) → TrueAngles fine (take (suc i) (counted u axis es)) angles
          → (sighting u 0 axis (get_or es i [])).fit ≡ true → mark ≡ false
          → (k : ℕ) × (k ≤ i) × FirstFit (counted u axis es) k
          × Stands u 0 axis fine (get_or angles k (pos 0)) (get_or angles i (pos 0)) (get_or os i no_datagram)
      unmarked_at fine some angles A fit m =
          let cs = counted u axis es in
          let here = get_or_map (counted_sighting u axis) es i [] slipped.none l in
          let r =
          unmarked_stands u.rate fine some cs i (omega (arith, length-map es (counted_sighting u axis))) angles A true 0
          (ap (λ (c : Counted). c.sighting.fit) here ∙ fit) (sym marked_by ∙ m) in (
            r.0,
            r.1,
            r.2,
            stands_told es a i l 0 axis (omega arith) k fine (get_or angles r.0 (pos 0)) (get_or angles i (pos 0))
                (subst (λ (x : Axis). totals.Stands fine (get_or angles r.0 (pos 0)) (get_or angles i (pos 0)) x) (sym axis_ruled) r.3),
          )

      sampled_at :
          (fine : ℕ) → 0 < fine → (angle : ℕ → ℤ) (at : List ℕ) → SampledAngles fine (take (suc i) (counted u axis es)) angle at
          → (sighting u 0 axis (get_or es i [])).fit ≡ true → mark ≡ false
          → (k : ℕ) × (k ≤ i) × FirstFit (counted u axis es) k × Stands u 0 axis fine (angle (get_or at k 0)) (angle (get_or at i 0)) (get_or os i no_datagram)
      sampled_at fine some angle at A fit m =
          let r = unmarked_at fine some (map angle at) (sampled_angles fine angle (take (suc i) (counted u axis es)) at A) fit m in
          let long = length-map es (counted_sighting u axis) in
          let all : length at ≡ suc i = A.one_each ∙ length-take-le (suc i) (counted u axis es) (omega arith) in (
            r.0,
            r.1,
            r.2,
            subst (λ (z : ℤ). Stands u 0 axis fine z (angle (get_or at i 0)) (get_or os i no_datagram))
                (get_or_map angle at r.0 0 (pos 0) (omega (arith, r.1)))
                (subst (λ (z : ℤ). Stands u 0 axis fine (get_or (map angle at) r.0 (pos 0)) z (get_or os i no_datagram))
                (get_or_map angle at i 0 (pos 0) (omega arith)) r.3),
          )

  -- ---- each true value is carried by one of the datagrams

  all_carried_at :
      (es : List (List ℕ)) (group axis fine : ℕ) (ts : List ℤ) → Carry fine (sightings u group axis es) ts → (k : ℕ) → k < length ts
      → (i : ℕ) × (i < length es) × ((sighting u group axis (get_or es i [])).fit ≡ true) × (fit_before (sightings u group axis es) i ≡ k)
  all_carried_at es group axis fine ts C k h =
      let ss = sightings u group axis es in
      let n : length (fit_readings ss) ≡ length ts = ap length C.carried ∙ length-map ts (reading_of fine) in
      let p = place_of ss k (omega arith) in
      let l : p.0 < length es = omega (arith, p.1, sightings_length u group axis es) in
      (p.0, l, ap (λ (s : Sighting). s.fit) (sym (sighting_at u group axis es p.0 l)) ∙ p.2, p.3)

  -- ---- runs

  a_run : (ps : List (List ℕ)) → (os : List Datagram) × (rs : List Report) × (t : Session) × FedInTurn u ps os rs t
  unfolding fresh_state
  a_run ps =
      let r = always_run (consumer u) (rules_of u) (lawful u ok) (history_invariant u ok) ps in
      let s = run_of_states u ok r.3 fresh_state_safe in
      (r.0, r.1, s.0, subst (λ (x : Session). Calls x ps r.0 r.1 s.0) (sym opens) s.2)

  one_run :
      {ps : List (List ℕ)} {os os' : List Datagram} {rs rs' : List Report} {t t' : Session}
      → FedInTurn u ps os rs t → FedInTurn u ps os' rs' t' → (os ≡ os') × (rs ≡ rs') × (t ≡ t')
  unfolding fresh_state end_state
  one_run {ps} c c' =
      let r = run_one (consumer u) (rules_of u) (lawful u ok) (history_invariant u ok) (prompt u ok).undecided
      (state_run c).2 (state_run c').2 fresh_state_safe (ready (consumer u) (rules_of u) (lawful u ok) (history_invariant u ok) fresh_state ps tt) in
      (r.0, r.1, is_session c ∙ ap (session_of u) r.2 ∙ sym (is_session c'))

  pub demand3 : Demand3 u
  demand3 =
      record {
        opened = ap (λ (o : Opened). ruling_number o.answer) (opened u ok);
        fed = a_run;
        once = λ c c'. one_run c c';
        reported = λ c. (
          (delivered c).reported,
          subst NoTen (sym (delivered c).reported) (reports_no_ten (limits_of u) (λ z. let y : ◌≡◌ {A = ℕ} 0 1 = cc in omega arith) 0 _),
          fed_stream c,
        );
        streams = λ v h. let r = every_stream (limits_of u) (omega arith) v h in (r.0, r.2);
        handed_out = λ c es a. answers c es a;
        change =
            λ c es a group axis h k three fine some ts C i l fit.
            change_at c es a i l group axis h k (integrated_kept u ok group h three) fine some ts C fit;
        all_carried = all_carried_at;
      }

  -- the marks of a gyro that keeps no totals, and of one that keeps them
  pub doubtful_totals : DoubtfulTotals u
  doubtful_totals =
      record {
        marked =
            λ c es a three axis k i l.
            let e = marked_by c es a three axis k i l in
            let ds = take (suc i) (counted u axis es) in (
              λ m. marked_slipped u.rate ds true 0 (sym e ∙ m),
              λ s. e ∙ slipped_marks u.rate ds true 0 s,
            );
        never =
            λ c es a other axis k i l.
            ap (λ (os : List Datagram). mark_at (get_or os i no_datagram).doubtful axis) (answers c es a)
            ∙ mark_unkept u axis ok k es i l (other_not_kept u ok 0 other);
        sum = λ c es a three axis k before last behind e f x. sum_kept c es a three axis k before last behind e f x;
        unmarked = λ c es a three axis k i l fit m fine some angles A. unmarked_at c es a three axis k i l fine some angles A fit m;
        unmarked_by_samples = λ c es a three axis k i l fit m fine some angle at A. sampled_at c es a three axis k i l fine some angle at A fit m;
      }

  -- the session counts the datagrams handed out
  counted_all :
      {ps : List (List ℕ)} {os : List Datagram} {rs : List Report} {t : Session} → FedInTurn u ps os rs t → t.history.datagrams.0 ≡ length os
  counted_all c =
      let es = (delivered c).datagrams in
      omega (
        arith,
        ap (λ (s : Session). s.history.datagrams.0) (is_session c),
        ap (λ (x : History). x.datagrams.0) (delivered c).carried,
        carried_datagrams u no_history es,
        ap length (delivered c).handed_out,
        length_told (consumer u) no_history es,
      )

  -- what was passed over and is held are those of the scan of the stream
  scanned :
      {ps : List (List ℕ)} {os : List Datagram} {rs : List Report} {t : Session} → FedInTurn u ps os rs t
      → (t.passed ≡ (scan (verdict_of u) (stream_of u ps)).passed) × (held_bytes t ≡ (scan (verdict_of u) (stream_of u ps)).held)
  scanned c =
      let l = (end_state c).scan.held in (
        ap (λ (s : Session). s.passed) (is_session c) ∙ (delivered c).passed,
        ap held_bytes (is_session c) ∙ padded_front 64 (length l) l refl ∙ (delivered c).held,
      )

  -- the session at the end is that of the state at the end
  ended :
      {ps : List (List ℕ)} {os : List Datagram} {rs : List Report} {t : Session} → FedInTurn u ps os rs t → PassesTen t × (t.setup ≡ u)
  unfolding end_state
  ended {t = t} c = (
    sound_ten t (ap is_sound (is_session c) ∙ session_sound u ok (end_state c) (state_run c).1.safe),
    ap (λ (s : Session). s.setup) (is_session c),
  )

  pub demand2 : Demand2 u
  demand2 =
      let bare-end = scan_bare (rules_of u) (lawful u ok) (prompt u ok) in
      record {
        opened = sound_ten (opening u).session (ap (λ (o : Opened). is_sound o.session) (opened u ok) ∙ fresh_sound u ok);
        fed = a_run;
        ended = λ c. ended c;
        parted =
            λ v. (
              (scan (verdict_of u) v).datagrams,
              among_found u ok v,
              λ ds a. among_scan (rules_of u) (lawful u ok) a (bare-end v),
            );
        handed_out = λ c es a. answers c es a;
        contained =
            λ c es a i l.
            subst (Contained u (eqb i 0) (fields_of u.identifier (get_or es (i - 1) [])).counter (get_or es i []))
            (sym (ap (λ (os : List Datagram). get_or os i no_datagram) (answers c es a))) (contained_at u ok es i l);
        exact = λ c es a i l group axis h k. exact_at c es a i l group axis h k;
        totals = λ c es a i l group axis h k. total_ruled c es a i l group axis h k;
        independent = λ group axis h k ds es e i. independent u group axis ok h k ds es e i;
        bytes = λ c. (fed_stream c, (scanned c).0, (scanned c).1);
      }

-- What holds for one length only
pub one_length_lem : OneLength
one_length_lem =
    record {
      none_taken = λ s t h. empty_call s (ten_sound s t) h;
      held_undecided = λ s t. undecided_held s (ten_sound s t);
      last_byte = λ s t p q. handed_last s (ten_sound s t) p (told_handed (feed_of s p).datagram (feed_of s p).answer q);
      counted = λ u e c. let ok = number_accepted u e in (counted_all u ok c, bytes_sum u ok c);
    }

-- Every call, on any session and any piece
pub every_call : EveryCall
every_call =
    record {
      kept = λ s t p. call_kept s (ten_sound s t) p;
      hands = λ s t p q. call_hands s (ten_sound s t) p q;
      waits = λ s t p q. call_waits s (ten_sound s t) p q;
      zeros = no_datagram_zeros;
      one_length_lem = one_length_lem;
      ten = λ s p f. fed_unsound s p (fails_ten s f);
      eleven = λ s p t h. fed_over s p (ten_sound s t) h;
      twelve = λ s p t h k. fed_past s p (ten_sound s t) h k;
      no_other = λ s p t h k n q. not_refused s p (ten_sound s t) h k n (told_refused (feed_of s p).datagram (feed_of s p).answer q);
      refused_opening =
          λ u e p.
          fed_unsound (opening u).session p (ap (λ (o : Opened). is_sound o.session) (refused_opening u (number_refused u e).1) ∙ zeros_unsound);
    }
