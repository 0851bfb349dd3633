-- A session and the scan's state that it is: which of them 10 turns down, there and back.
-- Assumes nothing.
use Prim.Native.Nat.{ℕ, zero, suc, ◌-◌, ◌*◌}
use mathlib.Core.Path.{◌≡◌, refl, sym, ap, ◌∙◌}
use mathlib.Core.Bool.{true}
use mathlib.Core.List.{List, [], ◌∷◌, ◌++◌}
use native.Mathlib.Omega.{arith}
use borrow.Author.Tests.{eqb-true, eq-eqb}
use lib.Dec.{eqb}
use lib.ListN.{length, drop, replicate, length-append, length-drop, take-append-drop}
use lib.Seq.{length-take-le}
use Rattle.integers.specs.Buffers.{padded}
use Rattle.integers.proofs.Booleans.{and_split, and_true}
use Rattle.integers.proofs.Buffers.{padded_front, padded_rest}
use Rattle.setup.specs.Setup.{ruling_on, length_of}
use Rattle.setup.specs.declared.Setup.{Setup}
use Rattle.scan.proofs.RunLaws.{Safe}
use Rattle.search.specs.Search.{rules_of}
use Rattle.admission.specs.Admission.{held_bytes, all_zero, kept_right, is_sound}
use Rattle.history.specs.declared.History.{History}
use Rattle.session.specs.declared.Session.{Session}
use Rattle.feeding.specs.Feed.{history_right, consumer, SessionState, state_of, session_of}
use Rattle.admission.proofs.Soundness.{Facts, sound_facts, facts_sound}
use Rattle.std.specs.Prelude.{Ok}

-- what is asked of a session of a setup
abbrev pub SafeOf : Setup → SessionState → Type 0
SafeOf u t = Safe (consumer u) (rules_of u) t

-- ---- what refusal 10 asks of what is kept, by parts

module _ (u : Setup) (n : ℕ) (x : History) where
  pub history_parts : history_right u n x ≡ true → (n ≡ length_of u * x.datagrams.0) × (kept_right u x ≡ true)
  unfolding history_right
  history_parts e =
      let a = and_split (eqb n (length_of u * x.datagrams.0)) (kept_right u x) e in
      (eqb-true n (length_of u * x.datagrams.0) a.0, a.1)

  pub parts_history : n ≡ length_of u * x.datagrams.0 → kept_right u x ≡ true → history_right u n x ≡ true
  unfolding history_right
  parts_history e a = and_true (eq-eqb n (length_of u * x.datagrams.0) e) a

-- ---- a session that 10 doesn't turn down stands for a safe one

pub count_held : (s : Session) → Facts s → length (held_bytes s) ≡ s.count
count_held s F = length-take-le s.count s.held F.within

pub facts_safe : (s : Session) → Facts s → SafeOf s.setup (state_of s)
facts_safe s F =
    record {
      scan = record { ruled = F.held; sum = omega (arith, F.sum, count_held s F); most = F.most };
      admitted = parts_history s.setup (length_of s.setup * s.history.datagrams.0) (state_of s).carried refl F.kept;
    }

pub state_safe : (s : Session) → is_sound s ≡ true → SafeOf s.setup (state_of s)
state_safe s e = facts_safe s (sound_facts s e)

-- ---- and back

zeros_zero : (n : ℕ) → all_zero (replicate n 0) ≡ true
unfolding all_zero
zeros_zero zero = refl
zeros_zero (suc n) = zeros_zero n

zero_zeros : (l : List ℕ) → all_zero l ≡ true → l ≡ replicate (length l) 0
unfolding all_zero
zero_zeros [] e = refl
zero_zeros (b ∷ l) e =
    let p = and_split (eqb b 0) (all_zero l) e in
    let z : b ≡ 0 = eqb-true b 0 p.0 in
    rw z (ap (λ (k : List ℕ). 0 ∷ k) (zero_zeros l p.1))

module _ (u : Setup) (ok : ruling_on u ≡ Ok tt) (t : SessionState) (Z : SafeOf u t) where
  -- the session of such a one stands for it
  pub state_of_lem : state_of (session_of u t) ≡ t
  state_of_lem =
      let e = (history_parts u t.scan.handed t.carried Z.admitted).0 in
      λ i.
      record {
        scan =
            record { held = padded_front 64 (length t.scan.held) t.scan.held refl i; handed = sym e i; passed = t.scan.passed; fed = t.scan.fed };
        carried = t.carried;
      }

  -- and isn't turned down by 10
  pub session_sound : is_sound (session_of u t) ≡ true
  session_sound =
      let l = t.scan.held in
      let k = history_parts u t.scan.handed t.carried Z.admitted in
      facts_sound (session_of u t)
      (record {
        accepted = ok;
        within = omega (arith, length-append l (replicate (64 - length l) 0));
        held = ap (rules_of u).may_hold (padded_front 64 (length l) l refl) ∙ Z.scan.ruled;
        rest = ap all_zero (padded_rest 64 l) ∙ zeros_zero (64 - length l);
        sum = omega (arith, k.0, Z.scan.sum);
        most = Z.scan.most;
        kept = k.1;
      })

-- a session of 64 bytes is that of what it stands for
pub session_state : (s : Session) → is_sound s ≡ true → length s.held ≡ 64 → session_of s.setup (state_of s) ≡ s
session_state s e n =
    let F = sound_facts s e in
    let c = count_held s F in
    let m : length (drop s.count s.held) ≡ 64 - length (held_bytes s) = omega (arith, length-drop s.count s.held) in
    let h : padded 64 (held_bytes s) ≡ s.held =
    ap (λ (k : ℕ). held_bytes s ++ replicate k 0) (sym m)
    ∙ ap (λ (l : List ℕ). held_bytes s ++ l) (sym (zero_zeros (drop s.count s.held) F.rest))
    ∙ take-append-drop s.count s.held
    in
    λ i.
    record {
      setup = s.setup;
      held = h i;
      count = c i;
      passed = s.passed;
      fed = s.fed;
      history = s.history;
    }
