-- The invariant of the loop over a piece: what each datagram leaves, and what there is at the end. Assumes nothing.
use Prim.Native.Nat.{ℕ, ◌+◌, ◌-◌, ◌*◌, ◌≤◌}
use mathlib.Core.Path.{◌≡◌, refl, sym, ap, ◌∙◌, subst}
use mathlib.Core.Bool.{true}
use mathlib.Core.List.{List, [], ◌++◌}
use native.Mathlib.Nat.{add-zero, mul-add, mul-one}
use native.Mathlib.Omega.{arith}
use lib.ListN.{length, take, drop, length-append, length-drop, drop_of_length-le}
use lib.Seq.{sets, length-sets, length-take-le, take_all, drop-drop}
use Rattle.history.specs.History.{awaits_first, history_next}
use Rattle.history.specs.declared.History.{History}
use Rattle.session.specs.Session.{session_with}
use Rattle.setup.specs.Setup.{ruling_on, length_of}
use Rattle.setup.specs.declared.Setup.{Setup}
use Rattle.setup.proofs.Refusals.{accepted_length}
use Rattle.scan.specs.Scan.{Scanned, holding, passing, handing, first, scan}
use Rattle.scan.specs.Carry.{steps, carried_after}
use Rattle.scan.proofs.ScanLaws.{scan_first, unrolled}
use Rattle.scan.proofs.AmongLaws.{stable}
use Rattle.search.specs.Search.{is_datagram, rules_of, verdict_of}
use Rattle.search.proofs.Datagrams.{lawful}
use Rattle.integers.proofs.Buffers.{to_end, sets_append}
use Rattle.search.proofs.Places.{IsComplete, IsUndecided, complete_length}
use Rattle.session.specs.declared.Session.{Session}
use Rattle.admission.proofs.Soundness.{sound_facts}
use Rattle.admission.proofs.PieceRulings.{admitted}
use Rattle.feeding.specs.Feed.{consumer, session_of}
use Rattle.feeding.proofs.BySetup.{after_datagram}
use Rattle.lines.specs.declared.Progress.{Progress}
use Rattle.whole_piece.specs.Lines.{behind_by}
use Rattle.whole_piece.specs.NextLines.{next_line, text_of}
use Rattle.lines.specs.PieceParts.{start_of, next_of, stopped, batch_by, Ready, scan_at, Finished, Answered, Permitted}
use Rattle.whole_piece.proofs.NextLines.{few_of, right_next, line_short, text_none, text_more}
use Rattle.std.specs.Prelude.{Ok}

-- ---- the scan by what find tells

module _ (u : Setup) (a : ruling_on u ≡ Ok tt) (v : List ℕ) (n : ℕ) where
  pub scan_complete :
      {size : ℕ} → IsComplete u v n size
      → scan (verdict_of u) v ≡ passing n (handing (take size (drop n v)) (scan (verdict_of u) (drop (n + size) v)))
  scan_complete w = scan_first (verdict_of u) (stable (rules_of u) (lawful u a)) v ∙ ap (unrolled (verdict_of u)) w.scan

  pub scan_open : IsUndecided u v n → scan (verdict_of u) v ≡ passing n (holding (drop n v))
  scan_open w = scan_first (verdict_of u) (stable (rules_of u) (lawful u a)) v ∙ ap (unrolled (verdict_of u)) w.scan

-- ---- counts that stay in range

-- room for fewer bytes
pub ready_less : (u : Setup) (x : Progress) (end less room : ℕ) → x.at ≤ less → less ≤ end → Ready u x end room → Ready u x less room
ready_less u x end less room a l R =
    record {
      accepted = R.accepted;
      within = a;
      most = omega (arith, R.most);
      kept = R.kept;
      few = omega (arith, R.few);
      passed = omega (arith, R.passed);
      roomy = omega (arith, R.roomy);
    }

module _ (u : Setup) (x : Progress) (end room : ℕ) (R : Ready u x end room) (n : ℕ) (d : List ℕ) (good : is_datagram u d ≡ true) where
  -- behind a datagram all is ready again
  pub ready_next : length d ≡ length_of u → x.at + (n + length_of u) ≤ end → Ready u (next_of u x n d) end room
  unfolding next_of history_next
  ready_next long fits =
      let k = x.history in
      let L = accepted_length u R.accepted in
      let few = few_of u R.accepted x.history.datagrams.0 (end - x.at) R.few in
      let short = line_short u R.accepted k d R.kept good (omega arith) in
      record {
        accepted = R.accepted;
        within = omega (arith, long, fits);
        most = R.most;
        kept = right_next u R.accepted k d R.kept good;
        few = omega (arith, R.few, ap (λ (h : History). length_of u * h.datagrams.0) (after_datagram u R.accepted (awaits_first k) k d), mul-add (length_of u) x.history.datagrams.0 1, mul-one (length_of u), long, fits);
        passed = omega (arith, R.passed, long, fits);
        roomy = omega (arith, R.roomy, short, long, fits, L.0);
      }

module _ (u : Setup) (start : Progress) (p b₀ : List ℕ) where
  -- at x, with the buffer b: what is left gives what the whole gives
  pub record Invariant (x : Progress) (b : List ℕ) : Type 0 where
    pub ready : Ready u x (length p) (length b)
    pub same : length b ≡ length b₀
    pub kept :
        carried_after (consumer u) x.history (scan_at u p x.at).datagrams
        ≡ carried_after (consumer u) start.history (scan_at u p start.at).datagrams
    pub passed : x.passed + (scan_at u p x.at).passed ≡ start.passed + (scan_at u p start.at).passed
    pub used : x.used + length (text_of u x.history (scan_at u p x.at)) ≡ start.used + length (text_of u start.history (scan_at u p start.at))
    pub text : sets b x.used (text_of u x.history (scan_at u p x.at)) ≡ sets b₀ start.used (text_of u start.history (scan_at u p start.at))
    pub held : (scan_at u p x.at).held ≡ (scan_at u p start.at).held

  pub invariant_start : Ready u start (length p) (length b₀) → Invariant start b₀
  invariant_start R = record { ready = R; same = refl; kept = refl; passed = refl; used = refl; text = refl; held = refl }

  module _ (x : Progress) (b : List ℕ) (G : Invariant x b) (n : ℕ) where
    -- a datagram, and its line
    module _ (size : ℕ) (w : IsComplete u (drop x.at p) n size) where
      abbrev it : List ℕ
      it = take size (drop n (drop x.at p))

      pub complete_within : x.at + (n + size) ≤ length p
      complete_within = omega (arith, w.within, length-drop x.at p, G.ready.within)

      pub complete_long : length it ≡ size
      complete_long = length-take-le size (drop n (drop x.at p)) (omega (arith, w.within, length-drop n (drop x.at p)))

      next_place : drop (n + size) (drop x.at p) ≡ drop (x.at + (n + length it)) p
      next_place = drop-drop (n + size) x.at p ∙ ap (λ (m : ℕ). drop (x.at + (n + m)) p) (sym complete_long)

      abbrev then_on : Scanned
      then_on = scan_at u p (x.at + (n + length it))

      scanned : scan_at u p x.at ≡ passing n (handing it then_on)
      scanned =
          scan_complete u G.ready.accepted (drop x.at p) n w
          ∙ ap (λ (l : List ℕ). passing n (handing it (scan (verdict_of u) l))) next_place

      lined : text_of u x.history (scan_at u p x.at) ≡ next_line u x.history it ++ text_of u (steps (consumer u) x.history it) then_on
      lined = ap (text_of u x.history) scanned ∙ text_more u x.history n it then_on

      pub invariant_next : Invariant (next_of u x n it) (sets b x.used (next_line u x.history it))
      unfolding next_of carried_after
      invariant_next =
          let k = x.history in
          let line = next_line u k it in
          let text = text_of u (steps (consumer u) k it) then_on in
          record {
            ready =
                subst (λ (room : ℕ). Ready u (next_of u x n it) (length p) room) (sym (length-sets b x.used line))
                (ready_next u x (length p) (length b) G.ready n it w.good (complete_long ∙ complete_length w) (omega (arith, complete_within, complete_length w)));
            same = length-sets b x.used line ∙ G.same;
            kept = sym (ap (λ (g : Scanned). carried_after (consumer u) k g.datagrams) scanned) ∙ G.kept;
            passed = omega (arith, G.passed, ap (λ (g : Scanned). g.passed) scanned);
            used = omega (arith, G.used, ap length lined, length-append line text);
            text = sym (sets_append b x.used line text) ∙ ap (sets b x.used) (sym lined) ∙ G.text;
            held = sym (ap (λ (g : Scanned). g.held) scanned) ∙ G.held;
          }

    -- no more datagram
    module _ (w : IsUndecided u (drop x.at p) n) where
      pub undecided_within : x.at + n ≤ length p
      undecided_within = omega (arith, w.within, length-drop x.at p, G.ready.within)

      opened : scan_at u p x.at ≡ passing n (holding (drop n (drop x.at p)))
      opened = scan_open u G.ready.accepted (drop x.at p) n w

      unlined : text_of u x.history (scan_at u p x.at) ≡ []
      unlined = ap (text_of u x.history) opened ∙ text_none u x.history n (drop n (drop x.at p))

      pub finished_stop : Finished u start p b₀ b (stopped x n)
      unfolding carried_after
      finished_stop =
          record {
            kept = sym (ap (λ (g : Scanned). carried_after (consumer u) x.history g.datagrams) opened) ∙ G.kept;
            passed = omega (arith, G.passed, ap (λ (g : Scanned). g.passed) opened);
            used = omega (arith, G.used, ap length unlined);
            text = sym (ap (sets b x.used) unlined) ∙ G.text;
            held = sym (drop-drop n x.at p) ∙ sym (ap (λ (g : Scanned). g.held) opened) ∙ G.held;
            within = undecided_within;
            short = omega (arith, w.short, length-drop x.at p, undecided_within);
            fits = omega (arith, G.ready.roomy, G.same);
          }

  -- no more bytes
  pub finished_all : (x : Progress) (b : List ℕ) → Invariant x b → length p ≤ x.at → Finished u start p b₀ b x
  unfolding first
  finished_all x b G h =
      let none : drop x.at p ≡ [] = drop_of_length-le p {i = x.at} h in
      let w : IsUndecided u (drop x.at p) 0 =
      subst (λ (l : List ℕ). IsUndecided u l 0) (sym none)
      (record { scan = refl; within = omega arith; short = omega (arith, (accepted_length u G.ready.accepted).0) }) in
      let same : stopped x 0 ≡ x =
      λ i. record { history = x.history; passed = add-zero x.passed i; at = add-zero x.at i; used = x.used } in
      subst (Finished u start p b₀ b) same (finished_stop x b G 0 w)

-- ---- the answer behind a piece that was gone through

-- a session may go through a piece from a place on
pub ready_start :
    (s : Session) (p : List ℕ) (room : ℕ) → Permitted s (length p) room → Ready s.setup (start_of s 0 0) (length p) room
ready_start s p room a =
    let A = admitted s (length p) a.admitted in
    let F = sound_facts s A.sound in
    record {
      accepted = F.accepted;
      within = omega arith;
      most = A.piece;
      kept = F.kept;
      few = omega (arith, F.sum, A.session);
      passed = omega (arith, F.sum, A.session);
      roomy = omega (arith, A.piece, a.enough);
    }

pub answered_finished :
    (s : Session) (at used : ℕ) (p b b' : List ℕ) (r : Progress) (t : Session) → ruling_on s.setup ≡ Ok tt
    → Finished s.setup (start_of s at used) p b b' r
    → t ≡ session_with s.setup r.history r.passed (s.fed + (length p - at)) (take 64 (take (length p - r.at) (drop r.at p)))
    → Answered s used (scan_at s.setup p at) (length p - at) b b' (record { answer = Ok r.used; session = t })
unfolding batch_by
answered_finished s at used p b b' r t a T e =
    let rest = take (length p - r.at) (drop r.at p) in
    let few : length rest ≤ 64 = omega (arith, ap length (to_end p r.at), length-drop r.at p, T.short, (accepted_length s.setup a).1) in
    let held : take 64 rest ≡ (scan_at s.setup p at).held = take_all 64 rest few ∙ to_end p r.at ∙ T.held in
    let session : t ≡ session_of s.setup (behind_by s (scan_at s.setup p at) (length p - at)) =
    e ∙ λ i. session_with s.setup (T.kept i) (T.passed i) (s.fed + (length p - at)) (held i) in
    record {
      batch = λ i. record { answer = Ok (T.used i); session = session i };
      text = T.text;
      fits = omega (arith, T.used, T.fits);
    }
