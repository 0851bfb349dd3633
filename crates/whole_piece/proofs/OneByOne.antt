-- The lines of a piece are those of the datagrams that calls of feed hand out, one after the other, and its session is the one that these leave.
-- Assumes nothing.
use Prim.Native.Nat.{ℕ, ◌+◌, ◌≤◌}
use mathlib.Core.Path.{◌≡◌, sym, ap, ◌∙◌, subst}
use mathlib.Core.Bool.{true}
use mathlib.Core.List.{List, [], ◌∷◌, ◌++◌, append-nil}
use lib.ListN.{length}
use Rattle.setup.specs.Setup.{ruling_on}
use Rattle.setup.specs.declared.Setup.{Setup}
use Rattle.scan.specs.Scan.{scan}
use Rattle.scan.specs.Calls.{taken_whole, Report}
use Rattle.scan.specs.Stream.{outcome, reports, stream}
use Rattle.scan.proofs.RunLaws.{Gives, Result, ready, run_result, run_exists}
use Rattle.scan.proofs.StreamLaws.{outcome_taken, stream_whole, reports_whole}
use Rattle.search.specs.Search.{limits_of, rules_of, verdict_of}
use Rattle.search.proofs.Datagrams.{lawful, prompt}
use Rattle.admission.specs.Admission.{held_bytes, is_sound}
use Rattle.session.specs.declared.Session.{Session}
use Rattle.admission.proofs.Soundness.{sound_facts}
use Rattle.feeding.specs.declared.Datagram.{Datagram}
use Rattle.feeding.specs.Feed.{consumer, SessionState, state_of, session_of, Calls}
use Rattle.feeding.proofs.Refinement.{SafeOf, state_safe, session_sound, session_state}
use Rattle.feeding.proofs.HistoryInvariant.{history_invariant}
use Rattle.feeding.proofs.OneLength.{undecided_held}
use Rattle.feeding.proofs.Agreement.{StateRun, run_of_states, run_of_sessions}
use Rattle.whole_piece.specs.Lines.{found_in, answers_in, behind}
use Rattle.std.specs.Prelude.{Ok}

module _ (s : Session) (p : List ℕ) (e : is_sound s ≡ true) (few : length p ≤ (limits_of s.setup).piece)
    (most : s.fed + length p ≤ (limits_of s.setup).session) where
  abbrev setup : Setup
  setup = s.setup

  ok : ruling_on setup ≡ Ok tt
  ok = (sound_facts s e).accepted

  -- the whole piece counts
  taken_whole_lem : outcome (limits_of setup) s.fed (length p) ≡ taken_whole
  taken_whole_lem = outcome_taken (limits_of setup) s.fed (length p) few most

  streamed : stream (limits_of setup) s.fed (p ∷ []) ≡ p
  unfolding stream
  streamed = stream_whole (limits_of setup) s.fed p [] taken_whole_lem ∙ append-nil p

  reported_whole : reports (limits_of setup) s.fed (p ∷ []) ≡ record { outcome = taken_whole; taken = length p } ∷ []
  unfolding reports
  reported_whole = reports_whole (limits_of setup) s.fed p [] taken_whole_lem

  -- what a run of calls on it gives
  module _ {os : List Datagram} {rs : List Report} {t : SessionState} (c : StateRun setup ok (state_of s) (p ∷ []) os rs t) where
    result : Result (consumer setup) (rules_of setup) (lawful setup ok) (history_invariant setup ok) (state_of s) (p ∷ []) os rs t
    result =
        run_result (consumer setup) (rules_of setup) (lawful setup ok) (history_invariant setup ok) (prompt setup ok).undecided c (state_safe s e)
        (ready (consumer setup) (rules_of setup) (lawful setup ok) (history_invariant setup ok) (state_of s) (p ∷ []) (undecided_held s e))

    given : Gives (consumer setup) (rules_of setup) (lawful setup ok) (history_invariant setup ok) (state_of s) (found_in s p) (length p) os t
    given =
        subst (λ (v : List ℕ). Gives (consumer setup) (rules_of setup) (lawful setup ok) (history_invariant setup ok) (state_of s) (scan (verdict_of setup) (held_bytes s ++ v)) (length v) os t)
        streamed result.gives

    ends_behind : t ≡ behind s p
    ends_behind =
        λ i.
        record {
          scan = record { held = given.held i; handed = given.handed i; passed = given.passed i; fed = given.fed i };
          carried = given.carried i;
        }

  -- the session behind the piece isn't turned down by 10
  pub behind_sound : is_sound (session_of setup (behind s p)) ≡ true
  behind_sound =
      let r = run_exists (consumer setup) (rules_of setup) (lawful setup ok) (history_invariant setup ok) (state_of s) (state_safe s e) (p ∷ []) in
      session_sound setup ok (behind s p) (subst (SafeOf setup) (ends_behind r.3) (result r.3).safe)

  module _ (long : length s.held ≡ 64) where
    -- calls can be made on the piece until it is taken
    pub run : (os : List Datagram) × (rs : List Report) × (t : Session) × Calls s (p ∷ []) os rs t
    run =
        let r = run_exists (consumer setup) (rules_of setup) (lawful setup ok) (history_invariant setup ok) (state_of s) (state_safe s e) (p ∷ []) in
        let c = run_of_states setup ok r.3 (state_safe s e) in
        (r.0, r.1, c.0, subst (λ (x : Session). Calls x (p ∷ []) r.0 r.1 c.0) (session_state s e long) c.2)

    -- and hand out these datagrams, leave this session, and take the piece whole
    pub one_by_one :
        {os : List Datagram} {rs : List Report} {t : Session} → Calls s (p ∷ []) os rs t
        → (os ≡ answers_in s p) × (t ≡ session_of setup (behind s p)) × (rs ≡ record { outcome = taken_whole; taken = length p } ∷ [])
    one_by_one {os} {rs} {t} c =
        let r = run_of_sessions setup ok {t = state_of s} (subst (λ (x : Session). Calls x (p ∷ []) os rs t) (sym (session_state s e long)) c) (state_safe s e) in
        ((given r.2).handed_out, r.1.same ∙ ap (session_of setup) (ends_behind r.2), (result r.2).reported ∙ reported_whole)
