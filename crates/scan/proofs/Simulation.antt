-- A simulation: two forms of a session whose calls agree have the same runs, a struct, say, and the session that it is a picture of.
-- Assumes nothing.
use Prim.Native.Nat.{ℕ}
use mathlib.Core.Path.{◌≡◌, refl, sym, ap, ◌∙◌, subst}
use mathlib.Core.List.{List, [], ◌∷◌, map}
use native.Mathlib.Omega.{arith}
use lib.ListN.{drop}
use Rattle.scan.specs.Calls.{Answer, datagram, waiting, refused, Fed, taken_whole, turned_down, Report, taking_more}
use Rattle.scan.specs.Calls.{Run, none, refuse, wait, hand, skip}
use Rattle.refusals.specs.declared.Refusal.{Refusal}

module _ {A B : Type 0} (show : B → A) where
  abbrev pub shown : Answer B → Answer A
  shown (datagram o) = datagram (show o)
  shown waiting = waiting
  shown (refused n) = refused n

  shown_refused : (a : Answer B) {n : Refusal} → shown a ≡ refused n → a ≡ refused n
  shown_refused (datagram o) e = absurd (let z : ◌≡◌ {A = ℕ} 0 1 = cc in omega arith)
  shown_refused waiting e = absurd (let z : ◌≡◌ {A = ℕ} 0 1 = cc in omega arith)
  shown_refused (refused m) {n} e = let z : m ≡ n = cc in ap refused z

  shown_waiting : (a : Answer B) → shown a ≡ waiting → a ≡ waiting
  shown_waiting (datagram o) e = absurd (let z : ◌≡◌ {A = ℕ} 0 1 = cc in omega arith)
  shown_waiting waiting e = refl
  shown_waiting (refused n) e = absurd (let z : ◌≡◌ {A = ℕ} 0 1 = cc in omega arith)

  shown_datagram : (a : Answer B) {o : A} → shown a ≡ datagram o → (b : B) × (a ≡ datagram b) × (o ≡ show b)
  shown_datagram (datagram b) {o} e = (b, refl, (cc))
  shown_datagram waiting e = absurd (let z : ◌≡◌ {A = ℕ} 0 1 = cc in omega arith)
  shown_datagram (refused n) e = absurd (let z : ◌≡◌ {A = ℕ} 0 1 = cc in omega arith)

  -- two calls that agree
  pub record Simulates {S T : Type 0} (Like : S → T → Type 0) (c : Fed S A) (c' : Fed T B) : Type 0 where
    pub answer : c.answer ≡ shown c'.answer
    pub taken : c.taken ≡ c'.taken
    pub next : Like c.next c'.next

module _ {S T A B : Type 0} (show : B → A) (Like : S → T → Type 0)
    (feed : S → List ℕ → Fed S A) (feed' : T → List ℕ → Fed T B)
    (agree : (s : S) (t : T) (p : List ℕ) → Like s t → Simulates show Like (feed s p) (feed' t p)) where
  -- a run of the one is a run of the other
  pub run_to :
      {s s' : S} {ps : List (List ℕ)} {os : List A} {rs : List Report} → Run feed s ps os rs s' → (t : T) → Like s t
      → (bs : List B) × (t' : T) × (os ≡ map show bs) × Like s' t' × Run feed' t ps bs rs t'
  run_to none t l = ([], t, refl, l, none)
  run_to (refuse {s = s} {p = p} {ps = ps} {rs = rs} n e c) t l =
      let a = agree s t p l in
      let r = run_to c (feed' t p).next a.next in (
        r.0,
        r.1,
        r.2,
        r.3,
        subst (λ (k : ℕ). Run feed' t (p ∷ ps) r.0 (record { outcome = turned_down n; taken = k } ∷ rs) r.1) (sym a.taken)
            (refuse n (shown_refused show (feed' t p).answer (sym a.answer ∙ e)) r.4),
      )
  run_to (wait {s = s} {p = p} {ps = ps} {rs = rs} e c) t l =
      let a = agree s t p l in
      let r = run_to c (feed' t p).next a.next in (
        r.0,
        r.1,
        r.2,
        r.3,
        subst (λ (k : ℕ). Run feed' t (p ∷ ps) r.0 (record { outcome = taken_whole; taken = k } ∷ rs) r.1) (sym a.taken)
            (wait (shown_waiting show (feed' t p).answer (sym a.answer ∙ e)) r.4),
      )
  run_to (hand {s = s} {p = p} {ps = ps} {os = os} {r = x} {rs = rs} e c) t l =
      let a = agree s t p l in
      let d = shown_datagram show (feed' t p).answer (sym a.answer ∙ e) in
      let r = run_to c (feed' t p).next a.next in (
        d.0 ∷ r.0,
        r.1,
        ap (λ (o : A). o ∷ os) d.2 ∙ ap (λ (l : List A). show d.0 ∷ l) r.2,
        r.3,
        subst (λ (k : ℕ). Run feed' t (p ∷ ps) (d.0 ∷ r.0) (taking_more k x ∷ rs) r.1) (sym a.taken)
            (hand d.1
            (subst (λ (k : ℕ). Run feed' (feed' t p).next (drop k p ∷ ps) r.0 (x ∷ rs) r.1) a.taken r.4)),
      )
  run_to (skip c) t l = let r = run_to c t l in (r.0, r.1, r.2, r.3, skip r.4)

  -- and back
  pub run_back :
      {t t' : T} {ps : List (List ℕ)} {bs : List B} {rs : List Report} → Run feed' t ps bs rs t' → (s : S) → Like s t
      → (s' : S) × Like s' t' × Run feed s ps (map show bs) rs s'
  run_back none s l = (s, l, none)
  run_back (refuse {s = t} {p = p} {ps = ps} {os = bs} {rs = rs} n e c) s l =
      let a = agree s t p l in
      let r = run_back c (feed s p).next a.next in (
        r.0,
        r.1,
        subst (λ (k : ℕ). Run feed s (p ∷ ps) (map show bs) (record { outcome = turned_down n; taken = k } ∷ rs) r.0) a.taken
            (refuse n (a.answer ∙ ap (shown show) e) r.2),
      )
  run_back (wait {s = t} {p = p} {ps = ps} {os = bs} {rs = rs} e c) s l =
      let a = agree s t p l in
      let r = run_back c (feed s p).next a.next in (
        r.0,
        r.1,
        subst (λ (k : ℕ). Run feed s (p ∷ ps) (map show bs) (record { outcome = taken_whole; taken = k } ∷ rs) r.0) a.taken
            (wait (a.answer ∙ ap (shown show) e) r.2),
      )
  run_back (hand {s = t} {p = p} {o = b} {ps = ps} {os = bs} {r = x} {rs = rs} e c) s l =
      let a = agree s t p l in
      let r = run_back c (feed s p).next a.next in (
        r.0,
        r.1,
        subst (λ (k : ℕ). Run feed s (p ∷ ps) (show b ∷ map show bs) (taking_more k x ∷ rs) r.0) a.taken
            (hand (a.answer ∙ ap (shown show) e)
            (subst (λ (k : ℕ). Run feed (feed s p).next (drop k p ∷ ps) (map show bs) (x ∷ rs) r.0) (sym a.taken) r.2)),
      )
  run_back (skip c) s l = let r = run_back c s l in (r.0, r.1, skip r.2)
