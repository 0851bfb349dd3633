-- What it says that a session is sound, clause by clause (01, What is turned down, 10). Assumes nothing.
use mathlib.Core.Path.{◌≡◌, refl, sym, ap, ◌∙◌}
use mathlib.Core.Bool.{Bool, true, false, ◌&&◌, ◌||◌, and_assoc}
use mathlib.Core.List.{List, [], ◌∷◌}
use Prim.Native.Nat.{ℕ, zero, suc, ◌+◌, ◌*◌, ◌≤◌}
use native.Mathlib.Omega.{arith}
use lib.Dec.{eqb, leb, ltb, eqb-suc-zero}
use lib.ListN.{length, take, drop, get_or}
use lib.Seq.{length-take-le}
use borrow.Author.Tests.{eqb-true, eq-eqb, leb-true, le-leb}
use Rattle.integers.proofs.Booleans.{and_split, and_true}
use Rattle.setup.specs.Setup.{ruling_on, length_of}
use Rattle.setup.specs.declared.Setup.{Setup}
use Rattle.setup.specs.Sensor.{sensor_of}
use Rattle.setup.specs.declared.Sensor.{Sensor}
use Rattle.setup.proofs.Refusals.{accepted_length}
use Rattle.setup.proofs.Sensors.{sensor_length}
use Rattle.motion.specs.Totals.{kept_by}
use Rattle.motion.proofs.AcceptedSetup.{accepted_kept}
use Rattle.scan.specs.OneLength.{held_rule}
use Rattle.search.specs.Search.{limits_of, rules_of, size_in}
use Rattle.session.specs.declared.Session.{Session}
use Rattle.session.specs.Session.{is_accepted}
use Rattle.admission.specs.Admission.{setup_right, held_bytes, held_right, all_zero, rest_right, sum_right, fed_right, kept_right_by, kept_right, is_sound}
use Rattle.std.specs.Prelude.{Ok, Err}
use Rattle.refusals.specs.Refusals.{Ruling}
use Rattle.refusals.specs.declared.Refusal.{Refusal}

-- the clauses as facts
pub record Facts (s : Session) : Type 0 where
  pub accepted : ruling_on s.setup ≡ Ok tt
  pub within : s.count ≤ length s.held
  pub held : (rules_of s.setup).may_hold (held_bytes s) ≡ true
  pub rest : all_zero (drop s.count s.held) ≡ true
  pub sum : length_of s.setup * s.history.datagrams.0 + s.passed + s.count ≡ s.fed
  pub most : s.fed ≤ (limits_of s.setup).session
  pub kept : kept_right s.setup s.history ≡ true

pub accepted_true : (j : Ruling) → is_accepted j ≡ true → j ≡ Ok tt
accepted_true (Ok tt) e = refl
accepted_true (Err f) e = let z : ◌≡◌ {A = ℕ} 0 1 = cc in absurd (omega arith)

pub sound_facts : (s : Session) → is_sound s ≡ true → Facts s
unfolding is_sound
sound_facts s e =
    let p = and_split (setup_right s) _ e in
    let q = and_split (held_right s) _ p.1 in
    let h = and_split (leb s.count (length s.held)) _ q.0 in
    let r = and_split (rest_right s) _ q.1 in
    let t = and_split (sum_right s) _ r.1 in
    let f = and_split (fed_right s) _ t.1 in
    record {
      accepted = accepted_true (ruling_on s.setup) p.0;
      within = leb-true s.count (length s.held) h.0;
      held = h.1;
      rest = r.0;
      sum = eqb-true (length_of s.setup * s.history.datagrams.0 + s.passed + s.count) s.fed t.0;
      most = leb-true s.fed (limits_of s.setup).session f.0;
      kept = f.1;
    }

pub facts_sound : (s : Session) → Facts s → is_sound s ≡ true
unfolding is_sound
facts_sound s h =
    and_true (ap is_accepted h.accepted)
    (and_true (and_true (le-leb s.count (length s.held) h.within) h.held)
    (and_true h.rest
    (and_true (eq-eqb (length_of s.setup * s.history.datagrams.0 + s.passed + s.count) s.fed h.sum)
    (and_true (le-leb s.fed (limits_of s.setup).session h.most) h.kept))))

-- a session whose setup is refused is not sound
pub refused_unsound : (s : Session) {e : Refusal} → ruling_on s.setup ≡ Err e → is_sound s ≡ false
unfolding is_sound
refused_unsound s e = rw e

-- ---- what the tests of the code come to

-- the same test by what an accepted setup says of its sensor, with its clauses in pairs, as the code takes them
abbrev pub by_sensor : Session → Sensor → Bool
by_sensor s x =
    ((leb s.count (length s.held) && held_rule x.identifier (size_in x) (held_bytes s)) && rest_right s)
    && ((eqb (size_in x * s.history.datagrams.0 + s.passed + s.count) s.fed && fed_right s) && kept_right_by (kept_by x.row x.units) s.history)

pub sound_in_turn : (s : Session) (x : Sensor) → ruling_on s.setup ≡ Ok tt → x ≡ sensor_of s.setup → is_sound s ≡ by_sensor s x
unfolding is_sound sensor_of
sound_in_turn s x a e =
    rw (e, a, ← sensor_length s.setup a, accepted_kept s.setup a)
    (sym
    (and_assoc (held_right s) (rest_right s) ((sum_right s && fed_right s) && kept_right s.setup s.history)
    ∙ ap (λ t. held_right s && (rest_right s && t)) (and_assoc (sum_right s) (fed_right s) (kept_right s.setup s.history))))

-- the length of its datagrams is in the table
pub size_range : (u : Setup) (x : Sensor) → ruling_on u ≡ Ok tt → x ≡ sensor_of u → (18 ≤ size_in x) × (size_in x ≤ 65)
size_range u x a e =
    let same : size_in x ≡ length_of u = ap size_in e ∙ sym (sensor_length u a) in
    let range = accepted_length u a in
    (omega (arith, range.0), omega (arith, range.1))

-- the rule for held bytes by their count and their first
pub held_rule_lem : (identifier size : ℕ) (bytes : List ℕ) (n : ℕ) → n ≤ length bytes
    → held_rule identifier size (take n bytes) ≡ (eqb n 0 || (eqb (get_or bytes 0 0) identifier && ltb n size))
unfolding held_rule
held_rule_lem identifier size bytes zero h = refl
held_rule_lem identifier size [] (suc n) h = absurd (omega arith)
held_rule_lem identifier size (b ∷ bytes) (suc n) h =
    let k : n ≤ length bytes = omega arith in
    rw (length-take-le n bytes k, eqb-suc-zero n)
