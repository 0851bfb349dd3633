-- Laws that hold only where all datagrams have one length (01, The scan: a datagram is handed out by the call that takes its last byte);
-- request 2.7 ends them, and with them this file.
-- Assumes nothing.
use Prim.Native.Nat.{ℕ, zero, suc, ◌+◌, ◌-◌, ◌*◌, ◌≤◌, ◌<◌}
use mathlib.Core.Path.{◌≡◌, refl, sym, ap, ◌∙◌}
use mathlib.Core.Bool.{Bool, true, false}
use mathlib.Core.List.{List, [], ◌∷◌, ◌++◌, append-nil}
use native.Mathlib.Nat.{add-zero, mul-add, mul-one, mul-zero}
use native.Mathlib.Numerals.{add-one}
use native.Mathlib.Omega.{arith}
use borrow.Author.Tests.{ltb-true, eq-eqb, ne_eqb, lt-ltb}
use lib.Dec.{eqb, ltb}
use lib.ListN.{length, take, drop, get_or, length-append, length-drop}
use lib.Seq.{length-take-le, take-length}
use Rattle.integers.specs.Bytes.{joined}
use Rattle.integers.proofs.Booleans.{and_split, and_true}
use Rattle.scan.specs.Scan.{Verdict, waits, hands, scan, First, ends, finds, first, Undecided, Stable}
use Rattle.scan.specs.Front.{Shaped}
use Rattle.scan.specs.Rules.{Limits, Rules, verdict, Lawful}
use Rattle.scan.specs.OneLength.{one_candidate, held_rule, one_length, Prompt}
use Rattle.scan.specs.Calls.{State, datagram, waiting, Fed, answered, after, taking, takes, call, feed}
use Rattle.scan.specs.Stream.{Among, end, other, then, Bare}
use Rattle.scan.proofs.ScanLaws.{first_undecided, Parted, parted_at, scan_undecided}
use Rattle.scan.proofs.FrontLaws.{front_short, waits_short, hands_acceptable, acceptable_hands, front_stable}
use Rattle.scan.proofs.AmongLaws.{stable}
use Rattle.scan.proofs.CallsLaws.{no_both, takes_le, takes_all, call_onward, behind_found, Sound, feed_made}

-- Where one more byte completes a datagram, that byte is its last
module _ (verdict : List ℕ → Verdict) (S : Stable verdict)
    (longer : (u v : List ℕ) (n : ℕ) → verdict u ≡ waits → verdict v ≡ hands n → length u < n) where
  behind_none :
      (h : List ℕ) → Undecided verdict h → (b n : ℕ) (d r : List ℕ) → first verdict (h ++ b ∷ []) ≡ finds n d r → r ≡ []
  behind_none h w b n d r e = empty r (omega (arith, k.0, length-append h (b ∷ []), long h w))
    where
      k : Parted verdict S (h ++ b ∷ []) (finds n d r)
      k = parted_at verdict S (h ++ b ∷ []) e

      long : (h : List ℕ) → Undecided verdict h → length h < length d
      long [] w = S.some _ (length d) k.3
      long (c ∷ h) w = longer (c ∷ h) _ (length d) w k.3

      empty : (r : List ℕ) → length r ≤ 0 → r ≡ []
      empty [] l = refl
      empty (c ∷ r) l = absurd (omega arith)

-- ---- the rules of datagrams with one identifier and one length

-- what a byte tells of the datagram that it begins
module _ (identifier size b : ℕ) where
  pub identifier_told : b ≡ identifier → one_candidate identifier size b ≡ size
  identifier_told e = rw (eq-eqb b identifier e)

  pub other_told : (b ≡ identifier → ⊥) → one_candidate identifier size b ≡ 0
  other_told n = rw (ne_eqb b identifier n)

module _ (identifier size : ℕ) (acceptable : List ℕ → Bool) (L : Limits) (some : 1 ≤ size)
    (long : (d : List ℕ) → acceptable d ≡ true → length d ≡ size) (begins : (d : List ℕ) → acceptable d ≡ true → get_or d 0 0 ≡ identifier) where
  abbrev rules : Rules
  rules = one_length identifier size acceptable L

  -- a byte that begins a datagram is the identifier
  known : (b : ℕ) → 1 ≤ one_candidate identifier size b → (eqb b identifier ≡ true) × (one_candidate identifier size b ≡ size)
  known b h = by (eqb b identifier) refl
    where
      by : (t : Bool) → eqb b identifier ≡ t → (eqb b identifier ≡ true) × (one_candidate identifier size b ≡ size)
      by true e = (e, rw e)
      by false e = absurd (let z : one_candidate identifier size b ≡ 0 = rw e in omega arith)

  shaped : Shaped (one_candidate identifier size) acceptable
  shaped =
      record {
        some = λ d a. omega (arith, some, long d a);
        long = λ d a. identifier_told identifier size (get_or d 0 0) (begins d a) ∙ sym (long d a);
      }

  waits_fewer : (u : List ℕ) → verdict rules u ≡ waits → length u < size
  waits_fewer [] e = some
  waits_fewer (b ∷ u) e =
      let l = waits_short (one_candidate identifier size) acceptable b u e in
      omega (arith, (known b (omega arith)).1)

  longer : (u v : List ℕ) (n : ℕ) → verdict rules u ≡ waits → verdict rules v ≡ hands n → length u < n
  longer u v n e f =
      let h = hands_acceptable (one_candidate identifier size) acceptable v n f in
      omega (arith, waits_fewer u e, long (take n v) h.2, length-take-le n v h.1)

  rule_undecided : (u : List ℕ) → held_rule identifier size u ≡ true → Undecided (verdict rules) u
  unfolding held_rule
  rule_undecided [] e = tt
  rule_undecided (b ∷ u) e =
      let k = and_split (eqb b identifier) (ltb (length (b ∷ u)) size) e in
      let c : one_candidate identifier size b ≡ size = rw k.0 in
      front_short (one_candidate identifier size) acceptable b u (omega (arith, ltb-true (length (b ∷ u)) size k.1))

  undecided_rule : (u : List ℕ) → Undecided (verdict rules) u → held_rule identifier size u ≡ true
  unfolding held_rule
  undecided_rule [] w = refl
  undecided_rule (b ∷ u) w =
      let l = waits_short (one_candidate identifier size) acceptable b u w in
      and_true (known b (omega arith)).0 (lt-ltb (length (b ∷ u)) size (waits_fewer (b ∷ u) w))

  rule_shorter : (u : List ℕ) → held_rule identifier size u ≡ true → length u < size
  unfolding held_rule
  rule_shorter [] e = some
  rule_shorter (b ∷ u) e = ltb-true _ _ (and_split (eqb b identifier) (ltb (length (b ∷ u)) size) e).1

  rule_behind : (r : List ℕ) → r ≡ [] → held_rule identifier size r ≡ true
  unfolding held_rule
  rule_behind r e = rw e

  pub one_length_lawful : Lawful rules
  one_length_lawful =
      record {
        shaped = shaped;
        longest = λ d a. omega (arith, long d a);
        holds =
            record {
              undecided = undecided_rule;
              behind_held = λ u e n d r q. no_both (first_undecided (verdict rules) u (rule_undecided u e)) q;
              behind_next =
                  λ u w b n d r q.
                  rule_behind r (behind_none (verdict rules) (front_stable (one_candidate identifier size) acceptable shaped) longer u w b n d r q);
              shorter = rule_shorter;
            };
      }

  pub one_length_prompt : Prompt rules
  one_length_prompt = record { longer = longer; undecided = rule_undecided }

-- of one length, datagrams take so many bytes together
pub joined_length :
    {acceptable : List ℕ → Bool} (size : ℕ) → ((d : List ℕ) → acceptable d ≡ true → length d ≡ size)
    → {v : List ℕ} {ds : List (List ℕ)} → Among acceptable v ds → length (joined ds) ≡ size * length ds
joined_length size long end = omega (arith, mul-zero size)
joined_length size long (other n a) = joined_length size long a
joined_length size long (then {d = d} {ds = ds} e a) =
    omega (
      arith,
      length-append d (joined ds),
      long d e,
      joined_length size long a,
      mul-add size (length ds) 1,
      mul-one size,
      ap (λ (n : ℕ). size * n) (add-one (length ds)),
    )

-- ---- what follows where a datagram is longer than any bytes that the scan waits on

-- what the scan finds at once in the bytes held and a whole piece, as a call gives it
abbrev pub at_once : State → List ℕ → First → Fed State (List ℕ)
at_once s p (ends n h) = taking s (length p) (ends n h)
at_once s p (finds n d r) = taking s (length p - length r) (finds n d [])

module _ (R : Rules) (M : Lawful R) (P : Prompt R) where
  -- while the scan waits, none begins among the bytes that it holds
  undecided_bare : (u : List ℕ) → Undecided (verdict R) u → Bare R.acceptable u
  undecided_bare [] w k B =
      let u : List ℕ = [] in
      omega (arith, B.some, B.there, length-drop k u)
  undecided_bare (b ∷ u) w k B =
      let d : List ℕ = take B.size (drop k (b ∷ u)) in
      let h : verdict R d ≡ hands (length d) =
      ap (verdict R) (sym (append-nil d)) ∙ acceptable_hands R.candidate R.acceptable M.shaped d [] B.made in
      omega (
        arith,
        P.longer (b ∷ u) d (length d) w h,
        length-take-le B.size (drop k (b ∷ u)) B.there,
        B.there,
        length-drop k (b ∷ u),
      )

  pub scan_bare : (u : List ℕ) → Bare R.acceptable (scan (verdict R) u).held
  scan_bare u = undecided_bare (scan (verdict R) u).held (scan_undecided (verdict R) u)

  -- None is held behind a datagram: it is handed out by the call that takes its last byte
  none_behind :
      (u p : List ℕ) → Undecided (verdict R) u → (n : ℕ) (d r : List ℕ)
      → first (verdict R) (u ++ take (takes (verdict R) u p) p) ≡ finds n d r → r ≡ []
  none_behind u p w =
      behind_found (verdict R) (stable R M) (λ (r : List ℕ). r ≡ []) (behind_none (verdict R) (stable R M) P.longer) u p
      (λ n d r q. no_both (first_undecided (verdict R) u w) q)

  -- What a call finds, takes and leaves held can be had from the scan of the bytes held and the whole piece at once
  call_at_once :
      (s : State) (p : List ℕ) → Undecided (verdict R) s.held → call (verdict R) s p ≡ at_once s p (first (verdict R) (s.held ++ p))
  unfolding call
  call_at_once s p w = go (first (verdict R) (s.held ++ take k p)) refl
    where
      k : ℕ
      k = takes (verdict R) s.held p

      go :
          (f : First) → first (verdict R) (s.held ++ take k p) ≡ f
          → taking s k (first (verdict R) (s.held ++ take k p)) ≡ at_once s p (first (verdict R) (s.held ++ p))
      go (ends n h) e =
          let l : k ≡ length p = takes_all (verdict R) s.held p e in
          let x : first (verdict R) (s.held ++ p) ≡ ends n h =
          ap (λ (q : List ℕ). first (verdict R) (s.held ++ q)) (sym (ap (λ (j : ℕ). take j p) l ∙ take-length p)) ∙ e
          in
          rw (e, x, l) refl
      go (finds n d r) e =
          let z : r ≡ [] = none_behind s.held p w n d r e in
          let x : first (verdict R) (s.held ++ p) ≡ finds n d (drop k p) =
          call_onward (verdict R) (stable R M) s.held p e ∙ ap (λ (t : List ℕ). finds n d (t ++ drop k p)) z
          in
          let l : length p - length (drop k p) ≡ k = omega (arith, length-drop k p, takes_le (verdict R) s.held p) in
          rw (e, x, l, z) refl

  -- a call that finds a datagram takes its last byte
  takes_some :
      (u p : List ℕ) {n : ℕ} {d r : List ℕ} → Undecided (verdict R) u
      → first (verdict R) (u ++ take (takes (verdict R) u p) p) ≡ finds n d r → 1 ≤ takes (verdict R) u p
  takes_some u p {n} {d} {r} w e = go (takes (verdict R) u p) refl
    where
      go : (k : ℕ) → takes (verdict R) u p ≡ k → 1 ≤ takes (verdict R) u p
      go zero q =
          no_both (first_undecided (verdict R) u w)
          (ap (first (verdict R)) (sym (append-nil u) ∙ ap (λ (k : ℕ). u ++ take k p) (sym q)) ∙ e)
      go (suc k) q = omega arith

  -- A datagram is handed out by the call that takes its last byte: it takes some, and holds nothing behind it
  pub last_byte :
      (s : State) (p d : List ℕ) → Sound R s → (call (verdict R) s p).answer ≡ datagram d
      → (1 ≤ (call (verdict R) s p).taken) × ((call (verdict R) s p).next.held ≡ [])
  unfolding call
  last_byte s p d Z e = go (first (verdict R) (s.held ++ take k p)) refl e
    where
      k : ℕ
      k = takes (verdict R) s.held p

      w : Undecided (verdict R) s.held
      w = P.undecided s.held Z.ruled

      go :
          (f : First) → first (verdict R) (s.held ++ take k p) ≡ f → answered f ≡ datagram d
          → (1 ≤ k) × ((after s k (first (verdict R) (s.held ++ take k p))).held ≡ [])
      go (ends n h) q x = absurd (let z : ◌≡◌ {A = ℕ} 0 1 = cc in omega arith)
      go (finds n d' r) q x = (takes_some s.held p w q, rw q (none_behind s.held p w n d' r q))

  -- A call on a sound session by the scan of the bytes held and the piece at once: what code goes by
  pub feed_at_once :
      (s : State) (p : List ℕ) → Sound R s → length p ≤ R.limits.piece → s.fed + length p ≤ R.limits.session
      → feed R true s p ≡ at_once s p (first (verdict R) (s.held ++ p))
  feed_at_once s p Z small fits = feed_made R s p small fits ∙ call_at_once s p (P.undecided s.held Z.ruled)

  -- A piece of 0 bytes is taken and hands out nothing
  pub empty_piece : (s : State) → Sound R s → feed R true s [] ≡ record { answer = waiting; taken = 0; next = s }
  empty_piece s Z =
      let f : first (verdict R) (s.held ++ []) ≡ ends 0 s.held =
      ap (first (verdict R)) (append-nil s.held) ∙ first_undecided (verdict R) s.held (P.undecided s.held Z.ruled) in
      feed_at_once s [] Z (omega arith) (omega (arith, Z.most)) ∙ rw (f, add-zero s.passed, add-zero s.fed) refl
