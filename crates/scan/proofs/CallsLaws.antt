-- Laws of one call: what it takes and finds, what it leaves held, what is refused, the byte sum.
-- Assumes nothing.
use Prim.Native.Nat.{ℕ, zero, suc, ◌+◌, ◌≤◌, ◌<◌}
use mathlib.Core.Path.{◌≡◌, refl, sym, ap, ◌∙◌, subst}
use mathlib.Core.Bool.{Bool, true, false}
use mathlib.Core.List.{List, [], ◌∷◌, ◌++◌, append_assoc, append-nil}
use native.Mathlib.Decide.{dec_le}
use native.Mathlib.Omega.{arith}
use borrow.Author.Tests.{eq-eqb, le-leb, lt-leb}
use lib.ListN.{length, take, drop, length-append, take-append-drop}
use lib.Seq.{length-take-le}
use Rattle.integers.proofs.Booleans.{and_true}
use Rattle.scan.specs.Scan.{Verdict, First, ends, finds, later, first, Undecided, Stable}
use Rattle.scan.specs.Rules.{Rules, verdict, Lawful}
use Rattle.scan.specs.Calls.{State, fresh, sound, Answer, waiting, refused, Fed, refusing}
use Rattle.scan.specs.Calls.{unless_found, answered, after, taking, takes, call, feed}
use Rattle.scan.proofs.ScanLaws.{first_append, onward, parted_at}
use Rattle.scan.proofs.AmongLaws.{stable}
use Rattle.refusals.specs.declared.Refusal.{Refusal}
use Rattle.refusals.specs.declared.Refusal.TheVariants.{SessionUnsound, StreamTooLong}

pub no_both : {f : First} {n m : ℕ} {h d r : List ℕ} {A : Type 0} → f ≡ ends n h → f ≡ finds m d r → A
no_both p q = absurd (let z : ◌≡◌ {A = ℕ} 0 1 = cc in omega arith)

module _ (verdict : List ℕ → Verdict) where
  -- Bytes fed are the bytes taken: a call adds what it takes
  pub call_fed : (s : State) (p : List ℕ) → (call verdict s p).next.fed ≡ s.fed + (call verdict s p).taken
  unfolding call
  call_fed s p = go (takes verdict s.held p) (first verdict (s.held ++ take (takes verdict s.held p) p))
    where
      go : (k : ℕ) (f : First) → (taking s k f).next.fed ≡ s.fed + k
      go k (ends n h) = refl
      go k (finds n d r) = refl

  pub takes_le : (u p : List ℕ) → takes verdict u p ≤ length p
  unfolding takes
  takes_le u [] = omega arith
  takes_le u (b ∷ p) = go (first verdict u) (takes_le (u ++ b ∷ []) p)
    where
      go : (f : First) → takes verdict (u ++ b ∷ []) p ≤ length p → unless_found f (suc (takes verdict (u ++ b ∷ []) p)) ≤ suc (length p)
      go (ends n h) ih = omega arith
      go (finds n d r) ih = omega arith

  -- with a datagram among the bytes held, a call takes none
  takes_none : (u p : List ℕ) {n : ℕ} {d r : List ℕ} → first verdict u ≡ finds n d r → takes verdict u p ≡ 0
  unfolding takes
  takes_none u [] e = refl
  takes_none u (b ∷ p) e = rw e

  next_byte :
      (u : List ℕ) (b : ℕ) (p : List ℕ) {n : ℕ} {h : List ℕ} → first verdict u ≡ ends n h
      → u ++ take (takes verdict u (b ∷ p)) (b ∷ p) ≡ (u ++ b ∷ []) ++ take (takes verdict (u ++ b ∷ []) p) p
  unfolding takes
  next_byte u b p e = rw e (sym (append_assoc u (b ∷ []) (take (takes verdict (u ++ b ∷ []) p) p)))

  -- where no datagram is found, the piece is taken whole
  pub takes_all :
      (u p : List ℕ) {n : ℕ} {h : List ℕ} → first verdict (u ++ take (takes verdict u p) p) ≡ ends n h → takes verdict u p ≡ length p
  unfolding takes
  takes_all u [] e = refl
  takes_all u (b ∷ p) {n} {h} e =
      go (first verdict u) refl
      (λ (e' : first verdict ((u ++ b ∷ []) ++ take (takes verdict (u ++ b ∷ []) p) p) ≡ ends n h). takes_all (u ++ b ∷ []) p e')
    where
      go :
          (f : First) → first verdict u ≡ f
          → (first verdict ((u ++ b ∷ []) ++ take (takes verdict (u ++ b ∷ []) p) p) ≡ ends n h → takes verdict (u ++ b ∷ []) p ≡ length p)
          → unless_found (first verdict u) (suc (takes verdict (u ++ b ∷ []) p)) ≡ suc (length p)
      go (ends m k) q ih = rw q (ap suc (ih (sym (ap (first verdict) (next_byte u b p q)) ∙ e)))
      go (finds m d r) q ih =
          let z : takes verdict u (b ∷ p) ≡ 0 = takes_none u (b ∷ p) q in
          let y : first verdict u ≡ ends n h =
          ap (first verdict) (sym (append-nil u) ∙ ap (λ (k : ℕ). u ++ take k (b ∷ p)) (sym z)) ∙ e
          in
          no_both y q

  -- no fewer bytes than it takes would do: before its last byte the scan finds no datagram
  pub takes_least :
      (u p : List ℕ) (j : ℕ) → j < takes verdict u p → {n : ℕ} {d r : List ℕ} → first verdict (u ++ take j p) ≡ finds n d r → ⊥
  unfolding takes
  takes_least u [] j l e = omega arith
  takes_least u (b ∷ p) j l {n} {d} {r} e =
      go (first verdict u) refl j l e
      (λ (i : ℕ) (l' : i < takes verdict (u ++ b ∷ []) p) (e' : first verdict ((u ++ b ∷ []) ++ take i p) ≡ finds n d r).
      takes_least (u ++ b ∷ []) p i l' e')
    where
      go :
          (f : First) → first verdict u ≡ f → (j : ℕ) → j < unless_found (first verdict u) (suc (takes verdict (u ++ b ∷ []) p))
          → first verdict (u ++ take j (b ∷ p)) ≡ finds n d r
          → ((i : ℕ) → i < takes verdict (u ++ b ∷ []) p → first verdict ((u ++ b ∷ []) ++ take i p) ≡ finds n d r → ⊥)
          → ⊥
      go (finds m d' r') q j l x ih = let z : j < 0 = rw q at l in omega arith
      go (ends m h) q zero l x ih = no_both q (ap (first verdict) (sym (append-nil u)) ∙ x)
      go (ends m h) q (suc i) l x ih =
          let z : suc i < suc (takes verdict (u ++ b ∷ []) p) = rw q at l in
          ih i (omega arith) (ap (first verdict) (append_assoc u (b ∷ []) (take i p)) ∙ x)

  module _ (S : Stable verdict) where
    -- the scan of all that is held and fed goes on from what the call found
    pub call_onward :
        (u p : List ℕ) {f : First} → first verdict (u ++ take (takes verdict u p) p) ≡ f
        → first verdict (u ++ p) ≡ onward verdict f (drop (takes verdict u p) p)
    call_onward u p e =
        let k = takes verdict u p in
        ap (first verdict) (ap (λ (q : List ℕ). u ++ q) (sym (take-append-drop k p)) ∙ sym (append_assoc u (take k p) (drop k p)))
        ∙ first_append verdict S (u ++ take k p) (drop k p)
        ∙ ap (λ (f : First). onward verdict f (drop k p)) e

    -- What stands behind the datagram that a call finds: what is so behind one among the bytes held, and behind one that a further byte completes
    module _ (P : List ℕ → Type 0) where
      abbrev Behind : List ℕ → Type 0
      Behind u = (n : ℕ) (d r : List ℕ) → first verdict u ≡ finds n d r → P r

      pub behind_found :
          ((u : List ℕ) → Undecided verdict u → (b : ℕ) → Behind (u ++ b ∷ []))
          → (u p : List ℕ) → Behind u → Behind (u ++ take (takes verdict u p) p)
      unfolding takes
      behind_found next u [] held n d r e = held n d r (ap (first verdict) (sym (append-nil u)) ∙ e)
      behind_found next u (b ∷ p) held n d r e = go (first verdict u) refl (λ (h : Behind (u ++ b ∷ [])). behind_found next (u ++ b ∷ []) p h n d r)
        where
          completed : {m : ℕ} {h : List ℕ} → first verdict u ≡ ends m h → Behind (u ++ b ∷ [])
          completed {m} {h} q n d r x =
              by (first verdict (h ++ b ∷ [])) refl (sym (first_append verdict S u (b ∷ []) ∙ ap (λ (f : First). onward verdict f (b ∷ [])) q) ∙ x)
            where
              by : (f : First) → first verdict (h ++ b ∷ []) ≡ f → later m f ≡ finds n d r → P r
              by (ends j g) y z = absurd (let w : ◌≡◌ {A = ℕ} 0 1 = cc in omega arith)
              by (finds j d' r') y z = let same : r' ≡ r = cc in subst P same (next h (parted_at verdict S u q).2 b j d' r' y)

          go :
              (f : First) → first verdict u ≡ f
              → (Behind (u ++ b ∷ []) → first verdict ((u ++ b ∷ []) ++ take (takes verdict (u ++ b ∷ []) p) p) ≡ finds n d r → P r)
              → P r
          go (finds m d' r') q on =
              let z : takes verdict u (b ∷ p) ≡ 0 = takes_none u (b ∷ p) q in
              held n d r (ap (first verdict) (sym (append-nil u) ∙ ap (λ (k : ℕ). u ++ take k (b ∷ p)) (sym z)) ∙ e)
          go (ends m h) q on = on (completed q) (sym (ap (first verdict) (next_byte u b p q)) ∙ e)

-- what refusal 10 asks of the bytes and counts, by parts
pub record Sound (R : Rules) (s : State) : Type 0 where
  pub ruled : R.may_hold s.held ≡ true
  pub sum : s.handed + s.passed + length s.held ≡ s.fed
  pub most : s.fed ≤ R.limits.session

pub parts_sound : (R : Rules) (s : State) → Sound R s → sound R s ≡ true
unfolding sound
parts_sound R s h = and_true h.ruled (and_true (eq-eqb _ _ h.sum) (le-leb _ _ h.most))

module _ (R : Rules) (s : State) (p : List ℕ) where
  -- a call by its case: refused by 10, as too long, by 12, or made
  pub feed_unsound : feed R false s p ≡ refusing SessionUnsound s
  unfolding feed
  feed_unsound = refl

  pub feed_over : R.limits.piece < length p → feed R true s p ≡ refusing R.limits.too_long s
  unfolding feed
  feed_over h = rw (lt-leb (length p) R.limits.piece h)

  pub feed_past : length p ≤ R.limits.piece → R.limits.session < s.fed + length p → feed R true s p ≡ refusing StreamTooLong s
  unfolding feed
  feed_past h k = rw (le-leb (length p) R.limits.piece h, lt-leb (s.fed + length p) R.limits.session k)

  pub feed_made : length p ≤ R.limits.piece → s.fed + length p ≤ R.limits.session → feed R true s p ≡ call (verdict R) s p
  unfolding feed
  feed_made h k = rw (le-leb (length p) R.limits.piece h, le-leb (s.fed + length p) R.limits.session k)

  pub data View : Type 0 where
    over : R.limits.piece < length p → feed R true s p ≡ refusing R.limits.too_long s → View
    past : length p ≤ R.limits.piece → R.limits.session < s.fed + length p → feed R true s p ≡ refusing StreamTooLong s → View
    made : length p ≤ R.limits.piece → s.fed + length p ≤ R.limits.session → feed R true s p ≡ call (verdict R) s p → View

  pub view : View
  view = go (dec_le (length p) R.limits.piece) (dec_le (s.fed + length p) R.limits.session)
    where
      go : Dec (length p ≤ R.limits.piece) → Dec (s.fed + length p ≤ R.limits.session) → View
      go (no h) k = let g : R.limits.piece < length p = omega arith in over g (feed_over g)
      go (yes h) (no k) = let g : R.limits.session < s.fed + length p = omega arith in past h g (feed_past h g)
      go (yes h) (yes k) = made h k (feed_made h k)

  pub no_refusal : {n : Refusal} {A : Type 0} → (call (verdict R) s p).answer ≡ refused n → A
  unfolding call
  no_refusal {n} {A} e = go (first (verdict R) (s.held ++ take (takes (verdict R) s.held p) p)) e
    where
      go : (f : First) → answered f ≡ refused n → A
      go (ends m h) q = absurd (let z : ◌≡◌ {A = ℕ} 0 1 = cc in omega arith)
      go (finds m d r) q = absurd (let z : ◌≡◌ {A = ℕ} 0 1 = cc in omega arith)

  -- A refusal takes no bytes and returns the session as given
  pub refused_same : (ok : Bool) {n : Refusal} → (feed R ok s p).answer ≡ refused n → feed R ok s p ≡ refusing n s
  unfolding feed
  refused_same false e = ap (λ (a : Answer (List ℕ)). record { answer = a; taken = 0; next = s }) e
  refused_same true {n} e = go view
    where
      by : (m : Refusal) → feed R true s p ≡ refusing m s → feed R true s p ≡ refusing n s
      by m q = q ∙ ap (λ (a : Answer (List ℕ)). record { answer = a; taken = 0; next = s }) (sym (ap (λ (c : Fed State (List ℕ)). c.answer) q) ∙ e)

      go : View → feed R true s p ≡ refusing n s
      go (over a q) = by R.limits.too_long q
      go (past a b q) = by StreamTooLong q
      go (made a b q) = no_refusal (sym (ap (λ (c : Fed State (List ℕ)). c.answer) q) ∙ e)

module _ (R : Rules) (M : Lawful R) where
  pub fresh_sound : Sound R fresh
  fresh_sound = record { ruled = M.holds.undecided [] tt; sum = refl; most = omega arith }

  -- what a call leaves held may be held
  held_after :
      (u p : List ℕ) → R.may_hold u ≡ true → (f : First) → first (verdict R) (u ++ take (takes (verdict R) u p) p) ≡ f
      → R.may_hold (after fresh 0 f).held ≡ true
  held_after u p e (ends n h) q = M.holds.undecided h (parted_at (verdict R) (stable R M) (u ++ take (takes (verdict R) u p) p) q).2
  held_after u p e (finds n d r) q =
      behind_found (verdict R) (stable R M) (λ (r : List ℕ). R.may_hold r ≡ true) M.holds.behind_next u p (M.holds.behind_held u e) n d r q

  -- The session after a call is sound again: bytes fed = handed out + passed over + held
  call_sound : (s : State) (p : List ℕ) → Sound R s → s.fed + length p ≤ R.limits.session → Sound R (call (verdict R) s p).next
  unfolding call
  call_sound s p Z fits = go (first (verdict R) (s.held ++ take k p)) refl
    where
      k : ℕ
      k = takes (verdict R) s.held p

      long : length (s.held ++ take k p) ≡ length s.held + k
      long = length-append s.held (take k p) ∙ ap (λ (n : ℕ). length s.held + n) (length-take-le k p (takes_le (verdict R) s.held p))

      less : k ≤ length p
      less = takes_le (verdict R) s.held p

      go : (f : First) → first (verdict R) (s.held ++ take k p) ≡ f → Sound R (after s k (first (verdict R) (s.held ++ take k p)))
      go (ends n h) e =
          let q = (parted_at (verdict R) (stable R M) (s.held ++ take k p) e).0 in
          rw e (record { ruled = held_after s.held p Z.ruled (ends n h) e; sum = omega (arith, Z.sum, long); most = omega (arith, less) })
      go (finds n d r) e =
          let q = (parted_at (verdict R) (stable R M) (s.held ++ take k p) e).0 in
          rw e (record { ruled = held_after s.held p Z.ruled (finds n d r) e; sum = omega (arith, Z.sum, long); most = omega (arith, less) })

  pub feed_sound : (s : State) (p : List ℕ) → Sound R s → Sound R (feed R true s p).next
  feed_sound s p Z = go (view R s p)
    where
      to : {c : Fed State (List ℕ)} → feed R true s p ≡ c → Sound R c.next → Sound R (feed R true s p).next
      to q Y = subst (λ (c : Fed State (List ℕ)). Sound R c.next) (sym q) Y

      go : View R s p → Sound R (feed R true s p).next
      go (over a q) = to q Z
      go (past a b q) = to q Z
      go (made a b q) = to q (call_sound s p Z b)

-- A call that waits has taken the whole piece
pub waits_whole : (R : Rules) (s : State) (p : List ℕ) → (call (verdict R) s p).answer ≡ waiting → (call (verdict R) s p).taken ≡ length p
unfolding call
waits_whole R s p e = go (first (verdict R) (s.held ++ take (takes (verdict R) s.held p) p)) refl e
  where
    go :
        (f : First) → first (verdict R) (s.held ++ take (takes (verdict R) s.held p) p) ≡ f → answered f ≡ waiting
        → takes (verdict R) s.held p ≡ length p
    go (ends n h) q x = takes_all (verdict R) s.held p q
    go (finds n d r) q x = absurd (let z : ◌≡◌ {A = ℕ} 0 1 = cc in omega arith)
