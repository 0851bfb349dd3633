-- The test of refusal 10 and its clauses as facts agree: a session is turned down by 10 exactly if a clause of 01 fails of it. Assumes nothing.
use Prim.Native.Nat.{ℕ, zero, suc, ◌+◌, ◌-◌, ◌<◌}
use mathlib.Core.Path.{◌≡◌, refl, sym, ap, ◌∙◌, subst}
use mathlib.Core.Bool.{Bool, true, false, ◌&&◌, ◌||◌}
use mathlib.Core.List.{List, [], ◌∷◌}
use mathlib.Core.Logic.{◌⊎◌, inl, inr}
use native.Mathlib.Omega.{arith}
use borrow.Author.Tests.{eqb-true, eq-eqb, ltb-true, lt-ltb}
use lib.Dec.{eqb, ltb}
use lib.ListN.{drop, get_or}
use lib.Seq.{get_or-drop}
use Rattle.std.specs.List.{list_all}
use Rattle.integers.proofs.Ranges.{in_reading_true, range_in_reading}
use Rattle.integers.proofs.Booleans.{and_split, and_true, or_true}
use Rattle.setup.specs.Setup.{length_of}
use Rattle.setup.proofs.Rules.{number_accepted, accepted_number}
use Rattle.motion.specs.Totals.{keeps, groups_kept, axis_at}
use Rattle.motion.specs.declared.Axis.{Axis}
use Rattle.motion.proofs.NineAxes.{kept_at}
use Rattle.doubt.specs.Doubt.{doubt_at}
use Rattle.history.specs.History.{awaits_first}
use Rattle.session.specs.declared.Session.{Session}
use Rattle.admission.specs.Admission.{all_zero, is_sound}
use Rattle.admission.specs.SoundSession.{AxisPasses, DoubtPasses, PassesTen}
use Rattle.admission.proofs.Soundness.{Facts, sound_facts, facts_sound, held_rule_lem}
use Rattle.admission.proofs.AxisLaws.{AxisFacts}
use Rattle.admission.proofs.KeptLaws.{kept_axes, kept_doubts, each_kept}

-- ---- the rule for held bytes

held_either : (n first identifier size : ℕ) → (eqb n 0 || (eqb first identifier && ltb n size)) ≡ true → (n ≡ 0) ⊎ ((first ≡ identifier) × (n < size))
held_either n first identifier size e = by (eqb n 0) refl e
  where
    by : (b : Bool) → eqb n 0 ≡ b → (b || (eqb first identifier && ltb n size)) ≡ true → (n ≡ 0) ⊎ ((first ≡ identifier) × (n < size))
    by true q x = inl (eqb-true n 0 q)
    by false q x =
        let p = and_split (eqb first identifier) (ltb n size) x in
        inr (eqb-true first identifier p.0, ltb-true n size p.1)

either_held : (n first identifier size : ℕ) → (n ≡ 0) ⊎ ((first ≡ identifier) × (n < size)) → (eqb n 0 || (eqb first identifier && ltb n size)) ≡ true
either_held n first identifier size (inl e) = rw (eq-eqb n 0 e)
either_held n first identifier size (inr p) = or_true (eqb n 0) (and_true (eq-eqb first identifier p.0) (lt-ltb n size p.1))

-- ---- zeros beyond the count

pub zeros_each : (l : List ℕ) → all_zero l ≡ list_all (λ b. eqb b 0) l
unfolding all_zero
zeros_each [] = refl
zeros_each (b ∷ l) = ap (λ (t : Bool). eqb b 0 && t) (zeros_each l)

zero_at : (l : List ℕ) → all_zero l ≡ true → (i : ℕ) → get_or l i 0 ≡ 0
unfolding all_zero
zero_at [] e i = refl
zero_at (b ∷ l) e zero = eqb-true b 0 (and_split (eqb b 0) (all_zero l) e).0
zero_at (b ∷ l) e (suc i) = zero_at l (and_split (eqb b 0) (all_zero l) e).1 i

at_zero : (l : List ℕ) → ((i : ℕ) → get_or l i 0 ≡ 0) → all_zero l ≡ true
unfolding all_zero
at_zero [] h = refl
at_zero (b ∷ l) h = and_true (eq-eqb b 0 (h 0)) (at_zero l (λ i. h (suc i)))

-- ---- one axis

module _ (kept first : Bool) (n : ℕ) (a : Axis) where
  axis_passes : AxisFacts kept first n a → AxisPasses kept first n a
  axis_passes f = record { total = f.total; last = range_in_reading a.last f.last; idle = f.idle; start = f.start }

  passes_axis : AxisPasses kept first n a → AxisFacts kept first n a
  passes_axis p = record { total = p.total; last = in_reading_true a.last p.last; idle = p.idle; start = p.start }

-- ---- the session

module _ (s : Session) where
  facts_ten : Facts s → PassesTen s
  facts_ten f =
      let u = s.setup in
      let h = s.history in
      let n = h.datagrams.0 in
      let a = h.axes in
      record {
        setup = accepted_number u f.accepted;
        there = f.within;
        held =
            held_either s.count (get_or s.held 0 0) u.identifier (length_of u)
            (sym (held_rule_lem u.identifier (length_of u) s.held s.count f.within) ∙ f.held);
        rest =
            λ i l.
            let k : s.count + (i - s.count) ≡ i = omega arith in
            ap (λ (m : ℕ). get_or s.held m 0) (sym k)
            ∙ sym (get_or-drop s.count s.held (i - s.count) 0)
            ∙ zero_at (drop s.count s.held) f.rest (i - s.count);
        sum = f.sum;
        most = f.most;
        axes =
            λ group axis g k.
            axis_passes (keeps u group) (awaits_first h) n (axis_at a group axis)
            (subst (λ (b : Bool). AxisFacts b (awaits_first h) n (axis_at a group axis)) (kept_at u group g) (kept_axes (groups_kept u) h f.kept group axis g k));
        doubt =
            λ axis k.
            subst (λ (b : Bool). DoubtPasses (b && (axis_at a 0 axis).begun) (doubt_at h.doubt axis)) (kept_at u 0 (omega arith))
            (kept_doubts (groups_kept u) h f.kept axis k);
      }

  ten_facts : PassesTen s → Facts s
  ten_facts p =
      let u = s.setup in
      let h = s.history in
      let n = h.datagrams.0 in
      let a = h.axes in
      record {
        accepted = number_accepted u p.setup;
        within = p.there;
        held =
            held_rule_lem u.identifier (length_of u) s.held s.count p.there
            ∙ either_held s.count (get_or s.held 0 0) u.identifier (length_of u) p.held;
        rest =
            at_zero (drop s.count s.held)
            (λ i. get_or-drop s.count s.held i 0 ∙ p.rest (s.count + i) (omega arith));
        sum = p.sum;
        most = p.most;
        kept =
            each_kept (groups_kept u) h
            (λ group axis g k.
            subst (λ (b : Bool). AxisFacts b (awaits_first h) n (axis_at a group axis)) (sym (kept_at u group g))
            (passes_axis (keeps u group) (awaits_first h) n (axis_at a group axis) (p.axes group axis g k)))
            (λ axis k.
            subst (λ (b : Bool). DoubtPasses (b && (axis_at a 0 axis).begun) (doubt_at h.doubt axis)) (sym (kept_at u 0 (omega arith)))
            (p.doubt axis k));
      }

  -- a session that the test passes has every clause, and one that has every clause passes
  pub sound_ten : is_sound s ≡ true → PassesTen s
  sound_ten e = facts_ten (sound_facts s e)

  pub ten_sound : PassesTen s → is_sound s ≡ true
  ten_sound p = facts_sound s (ten_facts p)

  -- so one of which a clause fails is turned down
  pub fails_ten : (PassesTen s → ⊥) → is_sound s ≡ false
  fails_ten h = by (is_sound s) refl
    where
      by : (b : Bool) → is_sound s ≡ b → is_sound s ≡ false
      by true e = absurd (h (sound_ten e))
      by false e = e
