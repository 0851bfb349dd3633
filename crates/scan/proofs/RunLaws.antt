-- A list of pieces fed by calls: a run exists, it is the only one, and it hands out the stream's datagrams.
-- Assumes nothing.
use Prim.Native.Nat.{ℕ, zero, suc, ◌+◌, ◌≤◌, ◌<◌}
use mathlib.Core.Path.{◌≡◌, refl, sym, ap, ◌∙◌, subst}
use mathlib.Core.Bool.{Bool, true}
use mathlib.Core.List.{List, [], ◌∷◌, ◌++◌, append_assoc, append-nil}
use mathlib.Core.Logic.{◌⊎◌, inl, inr}
use native.Mathlib.Nat.{zero-add, add-zero}
use native.Mathlib.Omega.{arith}
use lib.ListN.{length, take, drop, length-append, length-drop, take-append-drop}
use lib.Seq.{length-take-le, take-length}
use Rattle.integers.specs.Bytes.{joined}
use Rattle.integers.proofs.Booleans.{and_true}
use Rattle.scan.specs.Scan.{Scanned, scan, holding, passing, handing, First, ends, finds, first, Undecided}
use Rattle.scan.specs.Rules.{Rules, verdict, Lawful}
use Rattle.scan.specs.Calls.{State, Answer, datagram, waiting, refused, Fed, refusing, taking, takes, call, feed}
use Rattle.scan.specs.Calls.{taken_whole, turned_down, Report, taking_more, Run, none, refuse, wait, hand, skip}
use Rattle.scan.specs.Stream.{outcome, reports, stream, Bare}
use Rattle.scan.specs.Carry.{Consumer, tells, told, carried_after, Session, fresh_session, sound_session, carrying, feed_session, SessionRun}
use Rattle.scan.specs.Carry.{Invariant, plain, Delivered}
use Rattle.scan.proofs.ScanLaws.{scan_waits, scan_ends, scan_finds, Parted, parted_at}
use Rattle.scan.proofs.CallsLaws.{Sound, parts_sound, View, over, past, made, view, fresh_sound, feed_sound, takes_le, takes_all}
use Rattle.scan.proofs.StreamLaws.{outcome_over, outcome_past, outcome_taken, rest_taken}
use Rattle.scan.proofs.StreamLaws.{stream_down, reports_down, stream_whole, reports_whole, stream_rest, reports_rest}
use Rattle.scan.proofs.FrontLaws.{hands_acceptable}
use Rattle.scan.proofs.AmongLaws.{stable, scan_among, among_scan}
use Rattle.refusals.specs.declared.Refusal.{Refusal}
use Rattle.refusals.specs.declared.Refusal.TheVariants.{StreamTooLong}

-- the answers are three
no_answer : {O : Type 0} {a : Answer O} {n : Refusal} {A : Type 0} → a ≡ waiting → a ≡ refused n → A
no_answer p q = absurd (let z : ◌≡◌ {A = ℕ} 0 1 = cc in omega arith)

not_refused : {O : Type 0} {a : Answer O} {o : O} {n : Refusal} {A : Type 0} → a ≡ datagram o → a ≡ refused n → A
not_refused p q = absurd (let z : ◌≡◌ {A = ℕ} 0 1 = cc in omega arith)

not_waiting : {O : Type 0} {a : Answer O} {o : O} {A : Type 0} → a ≡ datagram o → a ≡ waiting → A
not_waiting p q = absurd (let z : ◌≡◌ {A = ℕ} 0 1 = cc in omega arith)

-- a run and another one from where it ends are a run
pub run_append :
    {S O : Type 0} {feed : S → List ℕ → Fed S O} {s t t' : S} {ps qs : List (List ℕ)} {os os' : List O} {rs rs' : List Report}
    → Run feed s ps os rs t → Run feed t qs os' rs' t' → Run feed s (ps ++ qs) (os ++ os') (rs ++ rs') t'
run_append none d = d
run_append (refuse n e c) d = refuse n e (run_append c d)
run_append (wait e c) d = wait e (run_append c d)
run_append (hand e c) d = hand e (run_append c d)
run_append (skip c) d = skip (run_append c d)

module _ {X O : Type 0} (K : Consumer X O) (R : Rules) where
  -- what refusal 10 asks of a session, by parts
  pub record Safe (s : Session X) : Type 0 where
    pub scan : Sound R s.scan
    pub admitted : K.admits s.scan.handed s.carried ≡ true

  pub safe_sound : (s : Session X) → Safe s → sound_session K R s ≡ true
  safe_sound s Z = and_true (parts_sound R s.scan Z.scan) Z.admitted

module _ {X O : Type 0} (K : Consumer X O) (R : Rules) (M : Lawful R) (Q : Invariant K R.acceptable) where
  -- what a call on a safe session gives, by its case
  pub data Step (s : Session X) (p : List ℕ) : Fed (Session X) O → Type 0 where
    down : (m : Refusal) → outcome R.limits s.scan.fed (length p) ≡ turned_down m → Step s p (refusing m s)
    waited :
        (n : ℕ) (h : List ℕ) → length p ≤ R.limits.piece → s.scan.fed + length p ≤ R.limits.session
        → first (verdict R) (s.scan.held ++ p) ≡ ends n h
        → Step s p (carrying K s (taking s.scan (length p) (ends n h)))
    handed :
        (n : ℕ) (d r : List ℕ) (k : ℕ) → length p ≤ R.limits.piece → s.scan.fed + length p ≤ R.limits.session → k ≤ length p
        → first (verdict R) (s.scan.held ++ take k p) ≡ finds n d r
        → Step s p (carrying K s (taking s.scan k (finds n d r)))

  pub step : (s : Session X) (p : List ℕ) → Safe K R s → Step s p (feed_session K R s p)
  unfolding feed_session call
  step s p Z =
      rw (safe_sound K R s Z) (go (view R s.scan p))
    where
      k : ℕ
      k = takes (verdict R) s.scan.held p

      to :
          {c : Fed State (List ℕ)} → feed R true s.scan p ≡ c → Step s p (carrying K s c)
          → Step s p (carrying K s (feed R true s.scan p))
      to q x = subst (λ (c : Fed State (List ℕ)). Step s p (carrying K s c)) (sym q) x

      by :
          length p ≤ R.limits.piece → s.scan.fed + length p ≤ R.limits.session
          → (f : First) → first (verdict R) (s.scan.held ++ take k p) ≡ f → Step s p (carrying K s (taking s.scan k f))
      by a b (finds n d r) e = handed n d r k a b (takes_le (verdict R) s.scan.held p) e
      by a b (ends n h) e =
          let l : k ≡ length p = takes_all (verdict R) s.scan.held p e in
          subst (λ (j : ℕ). Step s p (carrying K s (taking s.scan j (ends n h)))) (sym l)
          (waited n h a b
          (ap (λ (q : List ℕ). first (verdict R) (s.scan.held ++ q)) (sym (ap (λ (j : ℕ). take j p) l ∙ take-length p)) ∙ e))

      go : View R s.scan p → Step s p (carrying K s (feed R true s.scan p))
      go (over a q) = to q (down R.limits.too_long (outcome_over R.limits s.scan.fed (length p) a))
      go (past a b q) = to q (down StreamTooLong (outcome_past R.limits s.scan.fed (length p) a b))
      go (made a b q) = to q (by a b (first (verdict R) (s.scan.held ++ take k p)) refl)

  -- what is handed out is acceptable
  pub handed_acceptable : (u : List ℕ) {n : ℕ} {d r : List ℕ} → first (verdict R) u ≡ finds n d r → R.acceptable d ≡ true
  handed_acceptable u {n} {d} {r} e =
      let k : Parted (verdict R) (stable R M) u (finds n d r) = parted_at (verdict R) (stable R M) u e in
      ap R.acceptable (sym k.1) ∙ (hands_acceptable R.candidate R.acceptable (drop n u) (length d) k.3).2

  -- The session after a call is sound again
  pub session_safe : (s : Session X) (p : List ℕ) → Safe K R s → Safe K R (feed_session K R s p).next
  session_safe s p Z = record { scan = scanned; admitted = carried (step s p Z) }
    where
      scanned : Sound R (feed_session K R s p).next.scan
      scanned =
          unfold feed_session in
          rw (safe_sound K R s Z) (feed_sound R M s.scan p Z.scan)

      carried : {c : Fed (Session X) O} → Step s p c → K.admits c.next.scan.handed c.next.carried ≡ true
      carried (down m e) = Z.admitted
      carried (waited n h a b e) = Z.admitted
      carried (handed n d r k a b l e) =
          Q.at_step s.scan.handed s.carried d (handed_acceptable (s.scan.held ++ take k p) e) Z.admitted

  -- What a run gives where the scan of the bytes held and of n bytes fed gives g
  pub record Gives (s : Session X) (g : Scanned) (n : ℕ) (os : List O) (t : Session X) : Type 0 where
    pub handed_out : os ≡ told K s.carried g.datagrams
    pub carried : t.carried ≡ carried_after K s.carried g.datagrams
    pub fed : t.scan.fed ≡ s.scan.fed + n
    pub handed : t.scan.handed ≡ s.scan.handed + length (joined g.datagrams)
    pub passed : t.scan.passed ≡ s.scan.passed + g.passed
    pub held : t.scan.held ≡ g.held

  gives_none : (s : Session X) → Gives s (holding s.scan.held) 0 [] s
  unfolding told carried_after
  gives_none s =
      record {
        handed_out = refl;
        carried = refl;
        fed = omega arith;
        handed = omega arith;
        passed = omega arith;
        held = refl;
      }

  gives_waits :
      (s : Session X) (k n : ℕ) (h : List ℕ) {g : Scanned} {m : ℕ} {os : List O} {t : Session X}
      → Gives (carrying K s (taking s.scan k (ends n h))).next g m os t
      → Gives s (passing n g) (k + m) os t
  gives_waits s k n h G =
      record {
        handed_out = G.handed_out;
        carried = G.carried;
        fed = omega (arith, G.fed);
        handed = G.handed;
        passed = omega (arith, G.passed);
        held = G.held;
      }

  gives_hands :
      (s : Session X) (k n : ℕ) (d r : List ℕ) {g : Scanned} {m : ℕ} {os : List O} {t : Session X}
      → Gives (carrying K s (taking s.scan k (finds n d r))).next g m os t
      → Gives s (passing n (handing d g)) (k + m) (tells K s.carried d ∷ os) t
  unfolding told carried_after
  gives_hands s k n d r {g} G =
      record {
        handed_out = ap (λ (l : List O). tells K s.carried d ∷ l) G.handed_out;
        carried = G.carried;
        fed = omega (arith, G.fed);
        handed = omega (arith, G.handed, length-append d (joined g.datagrams));
        passed = omega (arith, G.passed);
        held = G.held;
      }

  -- the scan of what a session holds and of the stream that the pieces make
  abbrev pub found : Session X → List (List ℕ) → Scanned
  found s ps = scan (verdict R) (s.scan.held ++ stream R.limits s.scan.fed ps)

  -- What a run from a safe session gives
  pub record Result (s : Session X) (ps : List (List ℕ)) (os : List O) (rs : List Report) (t : Session X) : Type 0 where
    pub gives : Gives s (found s ps) (length (stream R.limits s.scan.fed ps)) os t
    pub reported : rs ≡ reports R.limits s.scan.fed ps
    pub safe : Safe K R t

  nothing_more : (s : Session X) → Safe K R s → Undecided (verdict R) s.scan.held → Result s [] [] [] s
  unfolding stream reports
  nothing_more s Z undecided =
      let w : scan (verdict R) (s.scan.held ++ []) ≡ holding s.scan.held =
      ap (scan (verdict R)) (append-nil s.scan.held)
      ∙ scan_waits (verdict R) s.scan.held undecided
      in
      record {
        gives = subst (λ (g : Scanned). Gives s g 0 [] s) (sym w) (gives_none s);
        reported = refl;
        safe = Z;
      }

  module _ (s : Session X) (p : List ℕ) {t : Session X} {ps : List (List ℕ)} {os : List O} where
    -- a piece that is turned down
    left_out :
        {m : Refusal} {rs : List Report} → outcome R.limits s.scan.fed (length p) ≡ turned_down m → Result s ps os rs t
        → Result s (p ∷ ps) os (record { outcome = turned_down m; taken = 0 } ∷ rs) t
    left_out {m} {rs} e A =
        record {
          gives =
              subst (λ (v : List ℕ). Gives s (scan (verdict R) (s.scan.held ++ v)) (length v) os t)
              (sym (stream_down R.limits s.scan.fed p ps e)) A.gives;
          reported =
              ap (λ (l : List Report). record { outcome = turned_down m; taken = 0 } ∷ l) A.reported
              ∙ sym (reports_down R.limits s.scan.fed p ps e);
          safe = A.safe;
        }

    module _ (small : length p ≤ R.limits.piece) (fits : s.scan.fed + length p ≤ R.limits.session) where
      -- a piece that is taken whole with no datagram
      waits_on :
          (n : ℕ) (h : List ℕ) {rs : List Report} → first (verdict R) (s.scan.held ++ p) ≡ ends n h
          → Result (carrying K s (taking s.scan (length p) (ends n h))).next ps os rs t
          → Result s (p ∷ ps) os (record { outcome = taken_whole; taken = length p } ∷ rs) t
      waits_on n h {rs} e A =
          let v : List ℕ = stream R.limits (s.scan.fed + length p) ps in
          let all : outcome R.limits s.scan.fed (length p) ≡ taken_whole = outcome_taken R.limits s.scan.fed (length p) small fits in
          let cut : stream R.limits s.scan.fed (p ∷ ps) ≡ p ++ v = stream_whole R.limits s.scan.fed p ps all in
          let w : found s (p ∷ ps) ≡ passing n (scan (verdict R) (h ++ v)) =
          ap (λ (x : List ℕ). scan (verdict R) (s.scan.held ++ x)) cut
          ∙ ap (scan (verdict R)) (sym (append_assoc s.scan.held p v))
          ∙ scan_ends (verdict R) (stable R M) (s.scan.held ++ p) v e
          in
          let l : length (stream R.limits s.scan.fed (p ∷ ps)) ≡ length p + length v = ap length cut ∙ length-append p v in
          record {
            gives =
                subst (λ (g : Scanned). Gives s g (length (stream R.limits s.scan.fed (p ∷ ps))) os t) (sym w)
                (subst (λ (m : ℕ). Gives s (passing n (scan (verdict R) (h ++ v))) m os t) (sym l)
                (gives_waits s (length p) n h A.gives));
            reported =
                ap (λ (l : List Report). record { outcome = taken_whole; taken = length p } ∷ l) A.reported
                ∙ sym (reports_whole R.limits s.scan.fed p ps all);
            safe = A.safe;
          }

      -- a piece of which a call takes k bytes, with a datagram
      hands_on :
          (n : ℕ) (d r : List ℕ) (k : ℕ) {x : Report} {rs : List Report} → k ≤ length p
          → first (verdict R) (s.scan.held ++ take k p) ≡ finds n d r
          → Result (carrying K s (taking s.scan k (finds n d r))).next (drop k p ∷ ps) os (x ∷ rs) t
          → Result s (p ∷ ps) (tells K s.carried d ∷ os) (taking_more k x ∷ rs) t
      hands_on n d r k {x} {rs} less e A =
          let v : List ℕ = stream R.limits (s.scan.fed + length p) ps in
          let all : outcome R.limits s.scan.fed (length p) ≡ taken_whole = outcome_taken R.limits s.scan.fed (length p) small fits in
          let cut : stream R.limits s.scan.fed (p ∷ ps) ≡ p ++ v = stream_whole R.limits s.scan.fed p ps all in
          let rest : List ℕ = drop k p in
          let cut' : stream R.limits (s.scan.fed + k) (rest ∷ ps) ≡ rest ++ v = stream_rest R.limits s.scan.fed p ps small fits k less in
          let parts : s.scan.held ++ (p ++ v) ≡ (s.scan.held ++ take k p) ++ (rest ++ v) =
          ap (λ (q : List ℕ). s.scan.held ++ (q ++ v)) (sym (take-append-drop k p))
          ∙ ap (λ (q : List ℕ). s.scan.held ++ q) (append_assoc (take k p) rest v)
          ∙ sym (append_assoc s.scan.held (take k p) (rest ++ v))
          in
          let w : found s (p ∷ ps) ≡ passing n (handing d (scan (verdict R) (r ++ stream R.limits (s.scan.fed + k) (rest ∷ ps)))) =
          ap (λ (q : List ℕ). scan (verdict R) (s.scan.held ++ q)) cut
          ∙ ap (scan (verdict R)) parts
          ∙ scan_finds (verdict R) (stable R M) (s.scan.held ++ take k p) (rest ++ v) e
          ∙ ap (λ (q : List ℕ). passing n (handing d (scan (verdict R) (r ++ q)))) (sym cut')
          in
          let o : List O = tells K s.carried d ∷ os in
          let m : k + length (stream R.limits (s.scan.fed + k) (rest ∷ ps)) ≡ length (stream R.limits s.scan.fed (p ∷ ps)) =
          omega (arith, ap length cut, length-append p v, ap length cut', length-append rest v, length-drop k p)
          in
          record {
            gives =
                subst (λ (g : Scanned). Gives s g (length (stream R.limits s.scan.fed (p ∷ ps))) o t) (sym w)
                (subst
                (λ (j : ℕ). Gives s (passing n (handing d (scan (verdict R) (r ++ stream R.limits (s.scan.fed + k) (rest ∷ ps))))) j o t) m
                (gives_hands s k n d r A.gives));
            reported = reports_rest R.limits s.scan.fed p ps small fits k less A.reported;
            safe = A.safe;
          }

    -- each kind of call, as a run has it
    refuse_step :
        {c : Fed (Session X) O} {n : Refusal} {rs : List Report} → Step s p c → c.answer ≡ refused n
        → Result c.next ps os rs t → Result s (p ∷ ps) os (record { outcome = turned_down n; taken = c.taken } ∷ rs) t
    refuse_step {n = n} {rs = rs} (down m e) q A =
        let z : m ≡ n = cc in
        subst (λ (j : Refusal). Result s (p ∷ ps) os (record { outcome = turned_down j; taken = 0 } ∷ rs) t) z (left_out e A)
    refuse_step (waited n h a b e) q A = no_answer refl q
    refuse_step (handed n d r k a b l e) q A = not_refused refl q

    wait_step :
        {c : Fed (Session X) O} {rs : List Report} → Step s p c → c.answer ≡ waiting
        → Result c.next ps os rs t → Result s (p ∷ ps) os (record { outcome = taken_whole; taken = c.taken } ∷ rs) t
    wait_step (down m e) q A = no_answer q refl
    wait_step (waited n h a b e) q A = waits_on a b n h e A
    wait_step (handed n d r k a b l e) q A = not_waiting refl q

    hand_step :
        {c : Fed (Session X) O} {o : O} {x : Report} {rs : List Report} → Step s p c → c.answer ≡ datagram o
        → Result c.next (drop c.taken p ∷ ps) os (x ∷ rs) t
        → Result s (p ∷ ps) (o ∷ os) (taking_more c.taken x ∷ rs) t
    hand_step (down m e) q A = not_refused q refl
    hand_step (waited n h a b e) q A = not_waiting q refl
    hand_step {o = o} {x = x} {rs = rs} (handed n d r k a b l e) q A =
        let z : tells K s.carried d ≡ o = cc in
        subst (λ (y : O). Result s (p ∷ ps) (y ∷ os) (taking_more k x ∷ rs) t) z (hands_on a b n d r k l e A)

  -- a piece of 0 bytes adds nothing
  skip_step :
      (s : Session X) → Safe K R s → {t : Session X} {ps : List (List ℕ)} {os : List O} {rs : List Report}
      → Result s ps os rs t → Result s ([] ∷ ps) os (record { outcome = taken_whole; taken = 0 } ∷ rs) t
  skip_step s Z {t} {ps} {os} {rs} A =
      let all : outcome R.limits s.scan.fed 0 ≡ taken_whole =
      outcome_taken R.limits s.scan.fed 0 (omega arith) (omega (arith, Z.scan.most)) in
      let cut : stream R.limits s.scan.fed ([] ∷ ps) ≡ stream R.limits s.scan.fed ps =
      stream_whole R.limits s.scan.fed [] ps all ∙ ap (λ (n : ℕ). stream R.limits n ps) (add-zero s.scan.fed)
      in
      record {
        gives = subst (λ (v : List ℕ). Gives s (scan (verdict R) (s.scan.held ++ v)) (length v) os t) (sym cut) A.gives;
        reported =
            ap (λ (l : List Report). record { outcome = taken_whole; taken = 0 } ∷ l) A.reported
            ∙ ap (λ (n : ℕ). record { outcome = taken_whole; taken = 0 } ∷ reports R.limits n ps) (sym (add-zero s.scan.fed))
            ∙ sym (reports_whole R.limits s.scan.fed [] ps all);
        safe = A.safe;
      }

  -- A session from which pieces can be fed so that nothing goes undecided: what it holds is undecided, or a first piece is taken
  abbrev pub Ready : Session X → List (List ℕ) → Type 0
  Ready s [] = Undecided (verdict R) s.scan.held
  Ready s (p ∷ ps) = Undecided (verdict R) s.scan.held ⊎ (outcome R.limits s.scan.fed (length p) ≡ taken_whole)

  pub ready : (s : Session X) (ps : List (List ℕ)) → Undecided (verdict R) s.scan.held → Ready s ps
  ready s [] w = w
  ready s (p ∷ ps) w = inl w

  module _ (s : Session X) (p : List ℕ) (ps : List (List ℕ)) where
    refused_ready : {c : Fed (Session X) O} {n : Refusal} → Step s p c → c.answer ≡ refused n → Ready s (p ∷ ps) → Ready c.next ps
    refused_ready (down m e) q (inl w) = ready s ps w
    refused_ready (down m e) q (inr x) = absurd (let z : ◌≡◌ {A = ℕ} 0 1 = cc in omega arith)
    refused_ready (waited n h a b e) q y = no_answer refl q
    refused_ready (handed n d r k a b l e) q y = not_refused refl q

    waited_ready : {c : Fed (Session X) O} → Step s p c → c.answer ≡ waiting → Ready c.next ps
    waited_ready (down m e) q = no_answer q refl
    waited_ready (waited n h a b e) q =
        ready (carrying K s (taking s.scan (length p) (ends n h))).next ps (parted_at (verdict R) (stable R M) (s.scan.held ++ p) e).2
    waited_ready (handed n d r k a b l e) q = not_waiting refl q

    handed_ready : {c : Fed (Session X) O} {o : O} → Step s p c → c.answer ≡ datagram o → Ready c.next (drop c.taken p ∷ ps)
    handed_ready (down m e) q = not_refused q refl
    handed_ready (waited n h a b e) q = not_waiting q refl
    handed_ready (handed n d r k a b l e) q = inr (rest_taken R.limits s.scan.fed p ps a b k l)

  -- That whatever is held is undecided is asked for `skip` alone: an empty rest may go unfed only where it decides nothing.
  -- Where all datagrams have one length it is so Prompt.undecided; request 2.7 drops `skip`, and with it this.
  abbrev pub HeldUndecided : Type 0
  HeldUndecided = (u : List ℕ) → R.may_hold u ≡ true → Undecided (verdict R) u

  -- Every run from a safe session gives this
  pub run_result :
      HeldUndecided → {s t : Session X} {ps : List (List ℕ)} {os : List O} {rs : List Report} → SessionRun K R s ps os rs t
      → Safe K R s → Ready s ps → Result s ps os rs t
  run_result H (none {s = s}) Z Y = nothing_more s Z Y
  run_result H (refuse {s = s} {p = p} {ps = ps} n e c) Z Y =
      refuse_step s p (step s p Z) e (run_result H c (session_safe s p Z) (refused_ready s p ps (step s p Z) e Y))
  run_result H (wait {s = s} {p = p} {ps = ps} e c) Z Y =
      wait_step s p (step s p Z) e (run_result H c (session_safe s p Z) (waited_ready s p ps (step s p Z) e))
  run_result H (hand {s = s} {p = p} {ps = ps} e c) Z Y =
      hand_step s p (step s p Z) e (run_result H c (session_safe s p Z) (handed_ready s p ps (step s p Z) e))
  run_result H (skip {s = s} {ps = ps} c) Z Y = skip_step s Z (run_result H c Z (ready s ps (H s.scan.held Z.scan.ruled)))

  -- Every list of pieces can be fed: the calls end
  abbrev pub FedOn : Session X → List (List ℕ) → Type 0
  FedOn s ps = (os : List O) × (rs : List Report) × (t : Session X) × SessionRun K R s ps os rs t

  abbrev FedPiece : Session X → List ℕ → List (List ℕ) → Type 0
  FedPiece s p ps = (os : List O) × (x : Report) × (rs : List Report) × (t : Session X) × SessionRun K R s (p ∷ ps) os (x ∷ rs) t

  -- what is held and left shrinks with each datagram
  abbrev left : Session X → List ℕ → ℕ
  left s p = length s.scan.held + length p

  one_call :
      (s : Session X) → Safe K R s → (p : List ℕ) (ps : List (List ℕ))
      → ((s : Session X) → Safe K R s → FedOn s ps)
      → ((t : Session X) → Safe K R t → (q : List ℕ) → left t q < left s p → FedPiece t q ps)
      → FedPiece s p ps
  one_call s Z p ps on again = go (step s p Z) refl
    where
      c : Fed (Session X) O
      c = feed_session K R s p

      go : {c' : Fed (Session X) O} → Step s p c' → c ≡ c' → FedPiece s p ps
      go (down m e) q =
          let r = on c.next (session_safe s p Z) in
          (r.0, record { outcome = turned_down m; taken = c.taken }, r.1, r.2, refuse m (ap (λ (x : Fed (Session X) O). x.answer) q) r.3)
      go (waited n h a b e) q =
          let r = on c.next (session_safe s p Z) in
          (r.0, record { outcome = taken_whole; taken = c.taken }, r.1, r.2, wait (ap (λ (x : Fed (Session X) O). x.answer) q) r.3)
      go (handed n d r k a b l e) q =
          let u : List ℕ = s.scan.held ++ take k p in
          let z : Parted (verdict R) (stable R M) u (finds n d r) = parted_at (verdict R) (stable R M) u e in
          let less : length r + length (drop k p) < left s p =
          omega (
            arith,
            z.0,
            length-append s.scan.held (take k p),
            length-take-le k p l,
            length-drop k p,
            (stable R M).some (drop n u) (length d) z.3,
          )
          in
          let y =
          again c.next (session_safe s p Z) (drop c.taken p)
          (subst (λ (x : Fed (Session X) O). left x.next (drop x.taken p) < left s p) (sym q) less)
          in (
            tells K s.carried d ∷ y.0,
            taking_more c.taken y.1,
            y.2,
            y.3,
            hand (ap (λ (x : Fed (Session X) O). x.answer) q) y.4,
          )

  exhaust :
      (k : ℕ) (s : Session X) → Safe K R s → (p : List ℕ) → left s p ≤ k → (ps : List (List ℕ))
      → ((s : Session X) → Safe K R s → FedOn s ps) → FedPiece s p ps
  exhaust zero s Z p h ps on = one_call s Z p ps on (λ t Y q l. absurd (omega arith))
  exhaust (suc k) s Z p h ps on = one_call s Z p ps on (λ t Y q l. exhaust k t Y q (omega arith) ps on)

  pub run_exists : (s : Session X) → Safe K R s → (ps : List (List ℕ)) → FedOn s ps
  run_exists s Z [] = ([], [], s, none)
  run_exists s Z (p ∷ ps) =
      let r = exhaust (left s p) s Z p (omega arith) ps (λ t Y. run_exists t Y ps) in
      (r.0, r.1 ∷ r.2, r.3, r.4)

  same_session :
      {s t : Session X} → s.carried ≡ t.carried → s.scan.held ≡ t.scan.held → s.scan.handed ≡ t.scan.handed
      → s.scan.passed ≡ t.scan.passed → s.scan.fed ≡ t.scan.fed → s ≡ t
  same_session a b c d e = λ i. record { scan = record { held = b i; handed = c i; passed = d i; fed = e i }; carried = a i }

  -- Any two runs from one session hand out the same, report the same and end in the same session
  pub run_one :
      HeldUndecided → {s t t' : Session X} {ps : List (List ℕ)} {os os' : List O} {rs rs' : List Report}
      → SessionRun K R s ps os rs t → SessionRun K R s ps os' rs' t' → Safe K R s → Ready s ps
      → (os ≡ os') × (rs ≡ rs') × (t ≡ t')
  run_one H a b Z Y =
      let A = run_result H a Z Y in
      let B = run_result H b Z Y in
      let G = A.gives in
      let G' = B.gives in (
        G.handed_out ∙ sym G'.handed_out,
        A.reported ∙ sym B.reported,
        same_session (G.carried ∙ sym G'.carried) (G.held ∙ sym G'.held) (G.handed ∙ sym G'.handed)
            (G.passed ∙ sym G'.passed) (G.fed ∙ sym G'.fed),
      )

  pub fresh_safe : Safe K R (fresh_session K)
  fresh_safe = record { scan = fresh_sound R M; admitted = Q.at_start }

  -- Fed to a fresh session, every list of pieces has a run
  pub always_run : (ps : List (List ℕ)) → FedOn (fresh_session K) ps
  always_run ps = run_exists (fresh_session K) fresh_safe ps

  -- and every run delivers what is promised
  pub always_delivered :
      HeldUndecided → {ps : List (List ℕ)} {os : List O} {rs : List Report} {t : Session X} → SessionRun K R (fresh_session K) ps os rs t
      → Delivered K R ps os rs t
  always_delivered H {ps} {os} {rs} {t} c =
      let A = run_result H c fresh_safe (ready (fresh_session K) ps tt) in
      let G = A.gives in
      let v : List ℕ = stream R.limits 0 ps in
      let bare : Bare R.acceptable t.scan.held → Bare R.acceptable (scan (verdict R) v).held =
      λ h. subst (Bare R.acceptable) G.held h in
      record {
        datagrams = (scan (verdict R) v).datagrams;
        among = λ h. scan_among R M v (bare h);
        only = λ h ds a. among_scan R M a (bare h);
        handed_out = G.handed_out;
        carried = G.carried;
        reported = A.reported;
        fed = G.fed ∙ zero-add _;
        handed = G.handed ∙ zero-add _;
        passed = G.passed ∙ zero-add _;
        held = G.held;
        sum = A.safe.scan.sum;
        safe = safe_sound K R t A.safe;
      }

pub plain_invariant : (acceptable : List ℕ → Bool) → Invariant plain acceptable
plain_invariant acceptable = record { at_start = refl; at_step = λ n x d a e. refl }
