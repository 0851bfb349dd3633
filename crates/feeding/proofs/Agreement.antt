-- A call of feed on the session of a safe state is the scan's call on that state; so are runs of calls.
-- Assumes nothing.
use Prim.Native.Nat.{ℕ}
use mathlib.Core.Path.{◌≡◌, refl, sym, ap, ◌∙◌, subst}
use mathlib.Core.Bool.{Bool, true}
use mathlib.Core.List.{List, [], ◌∷◌, map}
use Rattle.setup.specs.Setup.{ruling_on}
use Rattle.setup.specs.declared.Setup.{Setup}
use Rattle.scan.specs.Calls as calls
use Rattle.scan.specs.Calls.{Fed, Report, refusing}
use Rattle.scan.specs.Carry.{carrying, feed_session, SessionRun}
use Rattle.scan.proofs.CarryLaws.{session_refused}
use Rattle.scan.proofs.RunLaws.{safe_sound, session_safe}
use Rattle.scan.proofs.Simulation.{Simulates, run_to, run_back}
use Rattle.search.specs.Search.{rules_of}
use Rattle.admission.specs.Admission.{is_sound}
use Rattle.session.specs.declared.Session.{Session}
use Rattle.feeding.specs.declared.Datagram.{Datagram}
use Rattle.feeding.specs.declared.Reply.{Reply}
use Rattle.feeding.specs.Feed.{consumer, SessionState, state_of, session_of, reply_by, reply_of, feed_of, call_by, call, Calls}
use Rattle.search.proofs.Datagrams.{lawful}
use Rattle.feeding.proofs.Refinement.{SafeOf, state_safe, state_of_lem, session_sound}
use Rattle.feeding.proofs.HistoryInvariant.{history_invariant}
use Rattle.feeding.proofs.CallParts.{fed_scan}
use Rattle.std.specs.Prelude.{Ok}
use Rattle.refusals.specs.declared.Refusal.{Refusal}

-- the scan's call on a state of a setup
abbrev pub state_call : Setup → SessionState → List ℕ → Fed SessionState Datagram
state_call u = feed_session (consumer u) (rules_of u)

-- a call of feed on a session that 10 doesn't turn down is the call on what it stands for
pub on_state : (s : Session) → is_sound s ≡ true → (p : List ℕ) → feed_of s p ≡ reply_of s (state_call s.setup (state_of s) p)
unfolding feed_session
on_state s e p =
    let u = s.setup in
    let f = safe_sound (consumer u) (rules_of u) (state_of s) (state_safe s e) in
    fed_scan s p
    ∙ ap (λ (b : Bool). reply_of s (carrying (consumer u) (state_of s) (calls.feed (rules_of u) b (state_of s).scan p))) (e ∙ sym f)

module _ (u : Setup) (ok : ruling_on u ≡ Ok tt) where
  -- the same on the session of a safe state
  pub agrees : (t : SessionState) → SafeOf u t → (p : List ℕ) → feed_of (session_of u t) p ≡ reply_of (session_of u t) (state_call u t p)
  agrees t Z p =
      let s = session_of u t in
      on_state s (session_sound u ok t Z) p ∙ ap (λ (x : SessionState). reply_of s (state_call u x p)) (state_of_lem u ok t Z)

  -- the state after a call is safe again
  pub call_safe : (t : SessionState) (p : List ℕ) → SafeOf u t → SafeOf u (state_call u t p).next
  call_safe = session_safe (consumer u) (rules_of u) (lawful u ok) (history_invariant u ok)

  -- the session of a state, and that state
  pub record Like (t : SessionState) (s : Session) : Type 0 where
    pub same : s ≡ session_of u t
    pub safe : SafeOf u t

  abbrev same : Datagram → Datagram
  same o = o

  by_answer :
      (t : SessionState) → SafeOf u t → (c : Fed SessionState Datagram) → SafeOf u c.next
      → ((n : Refusal) → c.answer ≡ calls.Answer.refused n → c ≡ refusing n t)
      → Simulates same Like c (call_by (reply_of (session_of u t) c))
  by_answer t Z c Y stays = go c.answer refl
    where
      go :
          (a : calls.Answer Datagram) → c.answer ≡ a
          → Simulates same Like c (call_by (reply_by (session_of u t) c.answer c.taken c.next))
      go (calls.Answer.datagram o) e =
          rw e (record { answer = refl; taken = refl; next = record { same = refl; safe = Y } })
      go calls.Answer.waiting e = rw e (record { answer = refl; taken = refl; next = record { same = refl; safe = Y } })
      go (calls.Answer.refused n) e =
          let q = stays n e in
          rw e (record {
            answer = refl;
            taken = ap (λ (x : Fed SessionState Datagram). x.taken) q;
            next = record { same = ap (λ (x : Fed SessionState Datagram). session_of u x.next) (sym q); safe = Y };
          })

  simulated : (t : SessionState) (s : Session) (p : List ℕ) → Like t s → Simulates same Like (state_call u t p) (call s p)
  simulated t s p l =
      subst (λ (x : Session). Simulates same Like (state_call u t p) (call x p)) (sym l.same)
      (subst (λ (r : Reply). Simulates same Like (state_call u t p) (call_by r)) (sym (agrees t l.safe p))
      (by_answer t l.safe (state_call u t p)
      (call_safe t p l.safe)
      (λ n e. unfold feed_session in session_refused (consumer u) (rules_of u) _ t p e)))

  map_same : (os : List Datagram) → map same os ≡ os
  map_same [] = refl
  map_same (o ∷ os) = ap (λ (l : List Datagram). o ∷ l) (map_same os)

  -- the scan's runs over states of the setup
  abbrev pub StateRun : SessionState → List (List ℕ) → List Datagram → List Report → SessionState → Type 0
  StateRun = SessionRun (consumer u) (rules_of u)

  pub run_of_states :
      {t t' : SessionState} {ps : List (List ℕ)} {os : List Datagram} {rs : List Report} → StateRun t ps os rs t' → SafeOf u t
      → (s' : Session) × Like t' s' × Calls (session_of u t) ps os rs s'
  run_of_states {t} {t'} {ps} {os} {rs} c Z =
      let r = run_to same Like (state_call u) call simulated c (session_of u t) (record { same = refl; safe = Z }) in
      let e : os ≡ r.0 = r.2 ∙ map_same r.0 in
      (r.1, r.3, subst (λ (l : List Datagram). Calls (session_of u t) ps l rs r.1) (sym e) r.4)

  pub run_of_sessions :
      {t : SessionState} {s' : Session} {ps : List (List ℕ)} {os : List Datagram} {rs : List Report} → Calls (session_of u t) ps os rs s' → SafeOf u t
      → (t' : SessionState) × Like t' s' × StateRun t ps os rs t'
  run_of_sessions {t} {s'} {ps} {os} {rs} c Z =
      let r = run_back same Like (state_call u) call simulated c t (record { same = refl; safe = Z }) in
      (r.0, r.1, subst (λ (l : List Datagram). StateRun t ps l rs r.0) (map_same os) r.2)
