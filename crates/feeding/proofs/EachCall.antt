-- One call of feed: the session that it returns, and what is refused.
-- Assumes nothing.
use Prim.Native.Nat.{ℕ, ◌+◌, ◌*◌, ◌≤◌}
use mathlib.Core.Path.{◌≡◌, refl, sym, ap, ◌∙◌, subst}
use mathlib.Core.Bool.{true}
use mathlib.Core.List.{List}
use mathlib.Core.Option.{none}
use native.Mathlib.Nat.{add-zero}
use native.Mathlib.Omega.{arith}
use lib.ListN.{length}
use Rattle.setup.specs.Setup.{ruling_number, ruling_on, length_of}
use Rattle.setup.specs.declared.Setup.{Setup}
use Rattle.scan.specs.Calls as calls
use Rattle.scan.specs.Calls.{State, Fed}
use Rattle.scan.specs.Carry.{carrying, feed_session}
use Rattle.scan.proofs.CallsLaws.{feed_made, no_refusal}
use Rattle.scan.proofs.CarryLaws.{feed_fed, reply_refused}
use Rattle.search.specs.Search.{limits_of, rules_of, verdict_of}
use Rattle.admission.specs.Admission.{is_sound, piece_number, piece_ruling}
use Rattle.session.specs.declared.Session.{Session}
use Rattle.feeding.specs.declared.Datagram.{Datagram}
use Rattle.feeding.specs.declared.Answer.{Answer}
use Rattle.feeding.specs.declared.Answer.TheVariants.{Datagram as HandedOut, Waiting, Refused}
use Rattle.feeding.specs.declared.Reply.{Reply}
use Rattle.feeding.specs.Feed.{consumer, SessionState, state_of, session_of, reply_by, reply_of, feed_by, feed_of, answer_of, answer_number}
use Rattle.feeding.specs.Promises.{CallKept}
use Rattle.admission.proofs.Soundness.{sound_facts}
use Rattle.admission.proofs.PieceRulings.{number_told}
use Rattle.admission.proofs.TenLaws.{sound_ten}
use Rattle.feeding.proofs.Refinement.{SafeOf, state_safe, session_sound}
use Rattle.feeding.proofs.CallParts.{held_whole, fed_by}
use Rattle.feeding.proofs.Agreement.{state_call, on_state, call_safe}
use Rattle.std.specs.Prelude.{Ok, Err}
use Rattle.refusals.specs.Refusals.{Ruling}
use Rattle.refusals.specs.declared.Refusal.{Refusal}

-- ---- a call that is neither refused by 10 nor by 11 nor by 12

-- a reply tells of a refusal only where the call was refused
refused_by : (s : Session) {n : Refusal} (a : calls.Answer Datagram) (k : ℕ) (t : SessionState) → (reply_by s a k t).answer ≡ Refused n → a ≡ calls.Answer.refused n
refused_by s (calls.Answer.datagram o) k t e = absurd (let z : ◌≡◌ {A = ℕ} 0 1 = cc in omega arith)
refused_by s calls.Answer.waiting k t e = absurd (let z : ◌≡◌ {A = ℕ} 0 1 = cc in omega arith)
refused_by s {n} (calls.Answer.refused m) k t e = let z : m ≡ n = cc in ap calls.Answer.refused z

pub not_refused :
    (s : Session) (p : List ℕ) → is_sound s ≡ true → length p ≤ (limits_of s.setup).piece → s.fed + length p ≤ (limits_of s.setup).session
    → (n : Refusal) → (feed_of s p).answer ≡ Refused n → ⊥
not_refused s p e h k n q =
    let u = s.setup in
    let c = calls.call (verdict_of u) (state_of s).scan p in
    let f = fed_by s p true c e (feed_made (rules_of u) (state_of s).scan p h k) in
    let r = carrying (consumer u) (state_of s) c in
    let a = refused_by s r.answer r.taken r.next (ap (λ (x : Reply). x.answer) (sym f) ∙ q) in
    no_refusal (rules_of u) (state_of s).scan p (reply_refused (consumer u) (state_of s).carried c.answer a)

-- what an answer tells comes of its case
module _ (o : Datagram) where
  pub told_handed : (a : Answer) {d : Datagram} → answer_of a o ≡ calls.Answer.datagram d → a ≡ HandedOut
  told_handed HandedOut e = refl
  told_handed Waiting e = absurd (let z : ◌≡◌ {A = ℕ} 0 1 = cc in omega arith)
  told_handed (Refused n) e = absurd (let z : ◌≡◌ {A = ℕ} 0 1 = cc in omega arith)

  pub told_refused : (a : Answer) {n : Refusal} → answer_of a o ≡ calls.Answer.refused n → a ≡ Refused n
  told_refused HandedOut e = absurd (let z : ◌≡◌ {A = ℕ} 0 1 = cc in omega arith)
  told_refused Waiting e = absurd (let z : ◌≡◌ {A = ℕ} 0 1 = cc in omega arith)
  told_refused (Refused m) {n} e = let z : m ≡ n = cc in ap Refused z

-- the number of a call is that of its piece
pub fed_number : (s : Session) (p : List ℕ) → answer_number (feed_of s p).answer ≡ piece_number s (length p)
unfolding feed_of
fed_number s p = by (piece_ruling s (length p)) ∙ number_told s (length p)
  where
    made_none : (a : calls.Answer (List ℕ)) (k : ℕ) (t : State) → ((n : Refusal) → a ≡ calls.Answer.refused n → ⊥)
        → answer_number (reply_of s (carrying (consumer s.setup) (state_of s) (record { answer = a; taken = k; next = t }))).answer ≡ none
    made_none (calls.Answer.datagram d) k t h = refl
    made_none calls.Answer.waiting k t h = refl
    made_none (calls.Answer.refused n) k t h = absurd (h n refl)

    by : (r : Ruling) → answer_number (feed_by r s p).answer ≡ ruling_number r
    by (Ok tt) =
        let c = calls.call (verdict_of s.setup) (state_of s).scan p in
        made_none c.answer c.taken c.next (λ n e. no_refusal (rules_of s.setup) (state_of s).scan p e)
    by (Err n) = refl

-- ---- a call on a session that 10 doesn't turn down

module _ (s : Session) (e : is_sound s ≡ true) where
  ok : ruling_on s.setup ≡ Ok tt
  ok = (sound_facts s e).accepted

  module _ (p : List ℕ) where
    made : Fed SessionState Datagram
    made = state_call s.setup (state_of s) p

    grown_by : made.next.scan.fed ≡ s.fed + made.taken
    unfolding made feed_session
    grown_by = feed_fed (rules_of s.setup) _ (state_of s).scan p

    -- a session of a state that is sound: what is promised of it
    kept_by : (r : Reply) → is_sound r.session ≡ true → r.session.setup ≡ s.setup → (length s.held ≡ 64 → length r.session.held ≡ 64)
        → r.session.fed ≡ s.fed + r.taken → CallKept s r
    kept_by r sound same long fed =
        let t = r.session in
        record {
          sound = sound_ten t sound;
          setup = same;
          long = long;
          fed = fed;
          sum = ap (λ (u : Setup). length_of u * t.history.datagrams.0 + t.passed + t.count) (sym same) ∙ (sound_facts t sound).sum;
        }

    -- of the state behind the call
    safe_then : SafeOf s.setup made.next
    unfolding made
    safe_then = call_safe s.setup ok (state_of s) p (state_safe s e)

    sound_then : is_sound (session_of s.setup made.next) ≡ true
    sound_then = session_sound s.setup ok made.next safe_then

    long_then : length (session_of s.setup made.next).held ≡ 64
    long_then = held_whole s.setup made.next sound_then

    kept_of : (a : calls.Answer Datagram) → made.answer ≡ a → CallKept s (reply_by s a made.taken made.next)
    kept_of (calls.Answer.datagram o) q = kept_by (reply_by s (calls.Answer.datagram o) made.taken made.next) sound_then refl (λ x. long_then) grown_by
    kept_of calls.Answer.waiting q = kept_by (reply_by s calls.Answer.waiting made.taken made.next) sound_then refl (λ x. long_then) grown_by
    kept_of (calls.Answer.refused n) q = kept_by (reply_by s (calls.Answer.refused n) made.taken made.next) e refl (λ x. x) (sym (add-zero s.fed))

    pub call_kept : CallKept s (feed_of s p)
    call_kept = subst (CallKept s) (sym (on_state s e p)) (unfold made in kept_of made.answer refl)
