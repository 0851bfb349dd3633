-- One call of feed on a session that 10 doesn't turn down, by what it answers: a datagram, or waiting. Assumes nothing.
use Prim.Native.Nat.{ℕ, ◌+◌, ◌-◌, ◌^◌, ◌≤◌, ◌<◌}
use mathlib.Core.Path.{◌≡◌, refl, sym, ap, ◌∙◌, subst}
use mathlib.Core.Bool.{Bool, true, false, ◌&&◌, cond}
use mathlib.Core.List.{List, [], ◌++◌, append_assoc, append-nil}
use native.Mathlib.Nat.{mul-le-mul_right}
use native.Mathlib.Omega.{arith}
use lib.IntN.{nat_abs}
use lib.ListN.{length, take, drop, get_or, take-append-drop}
use lib.Seq.{length-take-le, drop-drop}
use Rattle.integers.proofs.Buffers.{padded_front}
use Rattle.setup.specs.Setup.{ruling_on, length_of}
use Rattle.setup.specs.declared.Setup.{Setup}
use Rattle.setup.proofs.Refusals.{accepted_length}
use Rattle.wire.specs.Fields.{Contents}
use Rattle.wire.proofs.FieldBytes.{sensor_fields}
use Rattle.motion.specs.Totals.{no_axis, Sighting, axis_step, kept_step, keeps, axis_at}
use Rattle.motion.specs.declared.Axis.{Axis}
use Rattle.motion.proofs.Bounds.{step_within, step_not_kept}
use Rattle.gaps.specs.declared.Samples.{Samples}
use Rattle.doubt.specs.Doubt.{no_doubt, doubt_step, kept_doubt, doubt_at}
use Rattle.doubt.specs.declared.AxisDoubt.{AxisDoubt}
use Rattle.doubt.proofs.DoubtLaws.{kept_doubt_lem, unkept_doubt}
use Rattle.scan.specs.Scan.{ends, finds, first, Undecided}
use Rattle.scan.specs.Calls as calls
use Rattle.scan.specs.Calls.{Fed, after, taking}
use Rattle.scan.specs.Carry.{steps, carrying}
use Rattle.scan.specs.Stream.{Begins}
use Rattle.scan.proofs.ScanLaws.{Parted, parted_at}
use Rattle.scan.proofs.AmongLaws.{stable, none_passed, passed_decided}
use Rattle.scan.proofs.RunLaws.{Step, down, waited, handed, step, handed_acceptable}
use Rattle.search.specs.Search.{candidate_of, is_datagram, rules_of, verdict_of}
use Rattle.search.proofs.Datagrams.{lawful}
use Rattle.history.specs.History.{awaits_first, history_next}
use Rattle.session.specs.declared.Session.{Session}
use Rattle.admission.specs.Admission.{held_bytes, is_sound}
use Rattle.admission.specs.SoundSession.{AxisPasses, DoubtPasses, PassesTen}
use Rattle.admission.proofs.Soundness.{sound_facts}
use Rattle.admission.proofs.TenLaws.{sound_ten}
use Rattle.feeding.specs.declared.Datagram.{Datagram}
use Rattle.feeding.specs.declared.Reply.{Reply}
use Rattle.feeding.specs.Feed.{history_after, consumer, SessionState, state_of, session_of, reply_of, feed_of, call_by, call}
use Rattle.feeding.specs.Promises.{sighting, CallHands, CallWaits}
use Rattle.feeding.proofs.Refinement.{state_safe}
use Rattle.feeding.proofs.HistoryInvariant.{history_invariant}
use Rattle.feeding.proofs.Agreement.{state_call, on_state}
use Rattle.feeding.proofs.EachCall.{call_kept}
use Rattle.feeding.proofs.DatagramLaws.{contained_told, total_told, exact_told, mark_told}
use Rattle.feeding.proofs.AxisAt.{axis_next}
use Rattle.feeding.proofs.DoubtAt.{doubt_next}
use Rattle.std.specs.Prelude.{Ok}

-- a session has so few datagrams that no total passes 2 ^ 53
few_totals : (s : Session) → PassesTen s → 18 ≤ length_of s.setup → (group axis : ℕ) → group < 3 → axis < 3 → nat_abs (axis_at s.history.axes group axis).total ≤ 2 ^ 53
few_totals s t l group axis g k =
    omega (
      arith,
      (t.axes group axis g k).total,
      mul-le-mul_right s.history.datagrams.0 l,
      t.sum,
      t.most,
    )

-- a step of an axis that 10 lets pass is 01's where it keeps a total, and else leaves it all zero
step_ruled :
    (kept first : Bool) (n : ℕ) (a : Axis) (d : Sighting) → AxisPasses kept first n a → nat_abs a.total ≤ 2 ^ 53 → kept_step kept a d ≡ cond kept (axis_step a d) no_axis
step_ruled true first n a d p h = step_within a d h
step_ruled false first n a d p h = step_not_kept a d ∙ p.idle refl

-- and so is what is kept of a gyro axis beside its total
doubt_ruled :
    (rate : ℕ) (kept begun fit : Bool) (q : AxisDoubt) (d : Samples) → DoubtPasses (kept && begun) q
    → kept_doubt rate kept begun fit q d ≡ cond kept (doubt_step rate begun fit q d) no_doubt
doubt_ruled rate true begun fit q d p = kept_doubt_lem rate true begun fit q d refl
doubt_ruled rate false begun fit q d p = unkept_doubt rate false begun fit q d refl ∙ p.idle refl

module _ (s : Session) (e : is_sound s ≡ true) (p : List ℕ) where
  abbrev u : Setup
  u = s.setup

  ok : ruling_on u ≡ Ok tt
  ok = (sound_facts s e).accepted

  least : 18 ≤ length_of u
  least = (accepted_length u ok).0

  -- what the scan's call gives, by its case
  seen : Step (consumer u) (rules_of u) (lawful u ok) (history_invariant u ok) (state_of s) p (state_call u (state_of s) p)
  seen = step (consumer u) (rules_of u) (lawful u ok) (history_invariant u ok) (state_of s) p (state_safe s e)

  -- the bytes held and k of the piece, and what stands behind them
  cut : (k : ℕ) → held_bytes s ++ p ≡ (held_bytes s ++ take k p) ++ drop k p
  cut k = ap (λ (q : List ℕ). held_bytes s ++ q) (sym (take-append-drop k p)) ∙ sym (append_assoc (held_bytes s) (take k p) (drop k p))

  -- ---- a datagram is handed out

  module _ (n : ℕ) (d r : List ℕ) (k : ℕ) (l : k ≤ length p) (x : first (verdict_of u) (held_bytes s ++ take k p) ≡ finds n d r) where
    abbrev next : SessionState
    next = record { scan = after (state_of s).scan k (finds n d r); carried = steps (consumer u) s.history d }

    abbrev with_datagram : Reply
    with_datagram = reply_of s (carrying (consumer u) (state_of s) (taking (state_of s).scan k (finds n d r)))

    abbrev joint : List ℕ
    joint = held_bytes s ++ take k p

    parts : Parted (verdict_of u) (stable (rules_of u) (lawful u ok)) joint (finds n d r)
    parts = parted_at (verdict_of u) (stable (rules_of u) (lawful u ok)) joint x

    good : is_datagram u d ≡ true
    good = handed_acceptable (consumer u) (rules_of u) (lawful u ok) (history_invariant u ok) joint x

    whole : joint ≡ take n joint ++ (d ++ held_bytes (session_of u next))
    whole =
        let t : drop n joint ≡ d ++ r =
        sym (take-append-drop (length d) (drop n joint))
        ∙ ap (λ (y : List ℕ). y ++ drop (length d) (drop n joint)) parts.1
        ∙ ap (λ (y : List ℕ). d ++ y) (drop-drop (length d) n joint ∙ parts.2) in
        sym (take-append-drop n joint)
        ∙ ap (λ (y : List ℕ). take n joint ++ y) t
        ∙ ap (λ (y : List ℕ). take n joint ++ (d ++ y)) (sym (padded_front 64 (length r) r refl))

    within : n ≤ length joint
    within = omega (arith, parts.0)

    module _ (after-ten : PassesTen (session_of u next)) where
      handed_reply : CallHands s p with_datagram
      handed_reply =
          record {
            over = take n joint;
            found = d;
            bytes = whole;
            taken = l;
            passed = ap (λ (m : ℕ). s.passed + m) (sym (length-take-le n joint within));
            acceptable = good;
            none_begins =
                λ m h B.
                let b = length-take-le n joint within in
                none_passed (rules_of u) (lawful u ok) joint (drop k p) x m (omega arith) (omega (arith, within))
                (subst (λ (y : List ℕ). Begins (is_datagram u) (drop m y)) (cut k) B);
            decided =
                λ m h.
                let b = length-take-le n joint within in
                subst (λ (y : List ℕ). candidate_of u (get_or y m 0) ≤ length y - m) (sym (cut k))
                (passed_decided (rules_of u) (lawful u ok) joint (drop k p) x m (omega arith) (omega (arith, within)));
            contained = contained_told u ok s.history d;
            exact = λ group axis g h. exact_told u ok s.history d group axis g h good (few_totals (session_of u next) after-ten least group axis g h);
            counted = unfold history_after history_next in refl;
            previous = unfold history_after history_next in ap (λ (c : Contents). c.counter) (sym (sensor_fields u d ok));
            axes =
                λ group axis g h.
                let t = sound_ten s e in
                axis_next u group axis ok g h (awaits_first s.history) s.history d
                ∙ step_ruled (keeps u group) (awaits_first s.history) s.history.datagrams.0 (axis_at s.history.axes group axis) (sighting u group axis d)
                (t.axes group axis g h) (few_totals s t least group axis g h);
            totals = λ group axis g h. total_told u ok s.history d group axis g h;
            doubt =
                λ axis h.
                doubt_next u axis ok h (awaits_first s.history) s.history d
                ∙ doubt_ruled u.rate (keeps u 0) (axis_at s.history.axes 0 axis).begun (sighting u 0 axis d).fit (doubt_at s.history.doubt axis) _
                ((sound_ten s e).doubt axis h);
            marks = λ axis h. mark_told u ok s.history d axis h;
          }

  pub call_hands : (call s p).answer ≡ calls.Answer.datagram (feed_of s p).datagram → CallHands s p (feed_of s p)
  call_hands q = go seen (on_state s e p)
    where
      go :
          {c : Fed SessionState Datagram} → Step (consumer u) (rules_of u) (lawful u ok) (history_invariant u ok) (state_of s) p c
          → feed_of s p ≡ reply_of s c → CallHands s p (feed_of s p)
      go (down m x) r =
          absurd (let a : (call s p).answer ≡ calls.Answer.refused m = ap (λ (y : Reply). (call_by y).answer) r in let z : ◌≡◌ {A = ℕ} 0 1 = cc in omega arith)
      go (waited n h a b x) r =
          absurd (let w : (call s p).answer ≡ calls.Answer.waiting = ap (λ (y : Reply). (call_by y).answer) r in let z : ◌≡◌ {A = ℕ} 0 1 = cc in omega arith)
      go (handed n d t k a b l x) r =
          subst (CallHands s p) (sym r)
          (handed_reply n d t k l x (subst (λ (y : Reply). PassesTen y.session) r (call_kept s e p).sound))

  -- ---- the call waits

  module _ (n : ℕ) (h : List ℕ) (x : first (verdict_of u) (held_bytes s ++ p) ≡ ends n h) where
    abbrev all : List ℕ
    all = held_bytes s ++ p

    split : Parted (verdict_of u) (stable (rules_of u) (lawful u ok)) all (ends n h)
    split = parted_at (verdict_of u) (stable (rules_of u) (lawful u ok)) all x

    inside : n ≤ length all
    inside = omega (arith, split.0)

    abbrev without : Reply
    without = reply_of s (carrying (consumer u) (state_of s) (taking (state_of s).scan (length p) (ends n h)))

    held_then : held_bytes without.session ≡ h
    held_then = padded_front 64 (length h) h refl

    none_here : (m : ℕ) → m < length (take n all) → Begins (is_datagram u) (drop m all) → ⊥
    none_here m l B =
        let b = length-take-le n all inside in
        none_passed (rules_of u) (lawful u ok) all [] x m (omega arith) (omega (arith, inside))
        (subst (λ (y : List ℕ). Begins (is_datagram u) (drop m y)) (sym (append-nil all)) B)

    decided_here : (m : ℕ) → m < length (take n all) → candidate_of u (get_or all m 0) ≤ length all - m
    decided_here m l =
        let b = length-take-le n all inside in
        subst (λ (y : List ℕ). candidate_of u (get_or y m 0) ≤ length y - m) (append-nil all)
        (passed_decided (rules_of u) (lawful u ok) all [] x m (omega arith) (omega (arith, inside)))

    waited_reply : CallWaits s p without
    waited_reply =
        record {
          over = take n all;
          bytes = sym (take-append-drop n all) ∙ ap (λ (y : List ℕ). take n all ++ y) (split.1 ∙ sym held_then);
          taken = refl;
          passed = ap (λ (m : ℕ). s.passed + m) (sym (length-take-le n all inside));
          none_begins = none_here;
          decided = decided_here;
          undecided = subst (Undecided (verdict_of u)) (sym held_then) split.2;
          history = refl;
          zeros = refl;
        }

  pub call_waits : (call s p).answer ≡ calls.Answer.waiting → CallWaits s p (feed_of s p)
  call_waits q = go seen (on_state s e p)
    where
      go :
          {c : Fed SessionState Datagram} → Step (consumer u) (rules_of u) (lawful u ok) (history_invariant u ok) (state_of s) p c
          → feed_of s p ≡ reply_of s c → CallWaits s p (feed_of s p)
      go (down m x) r =
          absurd (let a : (call s p).answer ≡ calls.Answer.refused m = ap (λ (y : Reply). (call_by y).answer) r in let z : ◌≡◌ {A = ℕ} 0 1 = cc in omega arith)
      go (waited n h a b x) r = subst (CallWaits s p) (sym r) (waited_reply n h x)
      go (handed n d t k a b l x) r =
          absurd
          (let w : (call s p).answer ≡ calls.Answer.datagram (feed_of s p).datagram =
          ap (λ (y : Reply). (call_by y).answer) r ∙ sym (ap (λ (y : Reply). calls.Answer.datagram y.datagram) r) in
          let z : ◌≡◌ {A = ℕ} 0 1 = cc in omega arith)
