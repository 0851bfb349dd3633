-- The datagrams of lines among bytes, which come in pieces, and of which the first 513 bytes of a line are kept. Assumes nothing.
use Prim.Native.Nat.{ℕ, suc, ◌≤◌, ◌<◌}
use mathlib.Core.Path.{◌≡◌, refl, sym, ap, ◌∙◌}
use mathlib.Core.Bool.{Bool, true, false}
use mathlib.Core.List.{List, [], ◌∷◌, ◌++◌, append_assoc, append-nil}
use native.Mathlib.Decide.{dec_le}
use native.Mathlib.Omega.{arith}
use borrow.Author.Tests.{lt-ltb}
use lib.Dec.{eqb}
use lib.ListN.{length, take, drop, take-append-drop}
use lib.Seq.{take_all, take_at, length-take-le}
use Rattle.setup.specs.declared.Setup.{Setup}
use Rattle.rehearsal.specs.RehearsalLine.{rehearsal_of}
use Rattle.std.specs.Prelude.{Err}
use Rattle.rehearsal.specs.declared.Fault.TheVariants.{TooLong}
use Rattle.setup_line.specs.SetupLine.{line_end}
use Rattle.stim_make.specs.MadeLines.{datagram_of, datagrams_in, line_in, next_number, number_in}

-- ---- in pieces

module _ (u : Setup) where
  pub datagrams_append : (h s t : List ℕ) → datagrams_in u h (s ++ t) ≡ datagrams_in u h s ++ datagrams_in u (line_in h s) t
  unfolding datagrams_in line_in
  datagrams_append h [] t = refl
  datagrams_append h (b ∷ s) t = by (eqb b 0x0A) refl (datagrams_append [] s t) (datagrams_append (h ++ b ∷ []) s t)
    where
      by : (z : Bool) → eqb b 0x0A ≡ z → datagrams_in u [] (s ++ t) ≡ datagrams_in u [] s ++ datagrams_in u (line_in [] s) t
          → datagrams_in u (h ++ b ∷ []) (s ++ t) ≡ datagrams_in u (h ++ b ∷ []) s ++ datagrams_in u (line_in (h ++ b ∷ []) s) t
          → datagrams_in u h (b ∷ s ++ t) ≡ datagrams_in u h (b ∷ s) ++ datagrams_in u (line_in h (b ∷ s)) t
      by true e ended more =
          rw e (ap (λ (x : List ℕ). datagram_of u h ++ x) ended ∙ sym (append_assoc (datagram_of u h) (datagrams_in u [] s) (datagrams_in u (line_in [] s) t)))
      by false e ended more = rw e more

pub line_append : (h s t : List ℕ) → line_in h (s ++ t) ≡ line_in (line_in h s) t
unfolding line_in
line_append h [] t = refl
line_append h (b ∷ s) t = by (eqb b 0x0A) refl (line_append [] s t) (line_append (h ++ b ∷ []) s t)
  where
    by : (z : Bool) → eqb b 0x0A ≡ z → line_in [] (s ++ t) ≡ line_in (line_in [] s) t → line_in (h ++ b ∷ []) (s ++ t) ≡ line_in (line_in (h ++ b ∷ []) s) t
        → line_in h (b ∷ s ++ t) ≡ line_in (line_in h (b ∷ s)) t
    by true e ended more = rw e ended
    by false e ended more = rw e more

pub number_append : (n : ℕ) (s t : List ℕ) → number_in n (s ++ t) ≡ number_in (number_in n s) t
unfolding number_in
number_append n [] t = refl
number_append n (b ∷ s) t = by (eqb b 0x0A) refl (number_append (next_number n) s t) (number_append n s t)
  where
    by : (z : Bool) → eqb b 0x0A ≡ z → number_in (next_number n) (s ++ t) ≡ number_in (number_in (next_number n) s) t → number_in n (s ++ t) ≡ number_in (number_in n s) t
        → number_in n (b ∷ s ++ t) ≡ number_in (number_in n (b ∷ s)) t
    by true e ended more = rw e ended
    by false e ended more = rw e more

-- ---- the first 513 bytes of a line

too_long : (h : List ℕ) → 513 ≤ length h → rehearsal_of h ≡ Err TooLong
unfolding rehearsal_of
too_long h l = rw (lt-ltb 512 (length h) (omega arith))

-- tell what its datagram is
pub datagram_kept : (u : Setup) (h : List ℕ) → datagram_of u (take 513 h) ≡ datagram_of u h
unfolding datagram_of
datagram_kept u h = by (dec_le (length h) 513)
  where
    by : Dec (length h ≤ 513) → datagram_of u (take 513 h) ≡ datagram_of u h
    by (yes l) = ap (datagram_of u) (take_all 513 h l)
    by (no l) =
        let k : 513 ≤ length h = omega arith in
        rw (too_long h k, too_long (take 513 h) (omega (arith, length-take-le 513 h k)))

-- and, with those that come behind them, which they are
pub take_kept : (h s : List ℕ) → take 513 (take 513 h ++ s) ≡ take 513 (h ++ s)
take_kept h s = by (dec_le (length h) 513)
  where
    by : Dec (length h ≤ 513) → take 513 (take 513 h ++ s) ≡ take 513 (h ++ s)
    by (yes l) = ap (λ (x : List ℕ). take 513 (x ++ s)) (take_all 513 h l)
    by (no l) =
        let k : 513 ≤ length h = omega arith in
        let t = take 513 h in
        let e : h ≡ t ++ drop 513 h = sym (take-append-drop 513 h) in
        take_at t s 513 (length-take-le 513 h k)
        ∙ sym (take_at t (drop 513 h ++ s) 513 (length-take-le 513 h k))
        ∙ ap (take 513) (sym (append_assoc t (drop 513 h) s))
        ∙ ap (λ (x : List ℕ). take 513 (x ++ s)) (sym e)

pub datagrams_kept : (u : Setup) (h s : List ℕ) → datagrams_in u (take 513 h) s ≡ datagrams_in u h s
unfolding datagrams_in
datagrams_kept u h [] = refl
datagrams_kept u h (b ∷ s) = by (eqb b 0x0A) refl (datagrams_kept u (take 513 h ++ b ∷ []) s) (datagrams_kept u (h ++ b ∷ []) s)
  where
    by : (z : Bool) → eqb b 0x0A ≡ z
        → datagrams_in u (take 513 (take 513 h ++ b ∷ [])) s ≡ datagrams_in u (take 513 h ++ b ∷ []) s
        → datagrams_in u (take 513 (h ++ b ∷ [])) s ≡ datagrams_in u (h ++ b ∷ []) s
        → datagrams_in u (take 513 h) (b ∷ s) ≡ datagrams_in u h (b ∷ s)
    by true e kept more = rw e (ap (λ (x : List ℕ). x ++ datagrams_in u [] s) (datagram_kept u h))
    by false e kept more = rw e (sym kept ∙ ap (λ (x : List ℕ). datagrams_in u x s) (take_kept h (b ∷ [])) ∙ more)

pub line_kept : (h s : List ℕ) → take 513 (line_in (take 513 h) s) ≡ take 513 (line_in h s)
unfolding line_in
line_kept h [] = ap (take 513) (sym (append-nil (take 513 h))) ∙ take_kept h [] ∙ ap (take 513) (append-nil h)
line_kept h (b ∷ s) = by (eqb b 0x0A) refl (line_kept (take 513 h ++ b ∷ []) s) (line_kept (h ++ b ∷ []) s)
  where
    by : (z : Bool) → eqb b 0x0A ≡ z
        → take 513 (line_in (take 513 (take 513 h ++ b ∷ [])) s) ≡ take 513 (line_in (take 513 h ++ b ∷ []) s)
        → take 513 (line_in (take 513 (h ++ b ∷ [])) s) ≡ take 513 (line_in (h ++ b ∷ []) s)
        → take 513 (line_in (take 513 h) (b ∷ s)) ≡ take 513 (line_in h (b ∷ s))
    by true e kept more = rw e
    by false e kept more = rw e (sym kept ∙ ap (λ (x : List ℕ). take 513 (line_in x s)) (take_kept h (b ∷ [])) ∙ more)

-- ---- up to the end of a line

-- no line ends among the bytes
pub record Within (u : Setup) (h s : List ℕ) (n : ℕ) : Type 0 where
  pub datagrams : datagrams_in u h s ≡ []
  pub line : line_in h s ≡ h ++ s
  pub number : number_in n s ≡ n

pub within : (u : Setup) (h s : List ℕ) (n : ℕ) → line_end s ≡ length s → Within u h s n
unfolding datagrams_in line_in number_in line_end
within u h [] n e = record { datagrams = refl; line = sym (append-nil h); number = refl }
within u h (b ∷ s) n e = by (eqb b 0x0A) refl (λ f. within u (h ++ b ∷ []) s n f)
  where
    by : (z : Bool) → eqb b 0x0A ≡ z → (line_end s ≡ length s → Within u (h ++ b ∷ []) s n) → Within u h (b ∷ s) n
    by true q next = let f : ◌≡◌ {A = ℕ} 0 (suc (length s)) = rw q at e in absurd (omega arith)
    by false q next =
        let f : suc (line_end s) ≡ suc (length s) = rw q at e in
        let w = next (omega arith) in
        record { datagrams = rw q w.datagrams; line = rw q (w.line ∙ append_assoc h (b ∷ []) s); number = rw q w.number }

-- one does: the bytes before its 0x0A belong to it
pub record Ended (u : Setup) (h s : List ℕ) (n : ℕ) : Type 0 where
  pub datagrams : datagrams_in u h (take (suc (line_end s)) s) ≡ datagram_of u (h ++ take (line_end s) s)
  pub line : line_in h (take (suc (line_end s)) s) ≡ []
  pub number : number_in n (take (suc (line_end s)) s) ≡ next_number n

pub ended : (u : Setup) (h s : List ℕ) (n : ℕ) → line_end s < length s → Ended u h s n
unfolding datagrams_in line_in number_in line_end
ended u h [] n l = absurd (omega arith)
ended u h (b ∷ s) n l = by (eqb b 0x0A) refl (λ f. ended u (h ++ b ∷ []) s n f)
  where
    by : (z : Bool) → eqb b 0x0A ≡ z → (line_end s < length s → Ended u (h ++ b ∷ []) s n) → Ended u h (b ∷ s) n
    by true q next =
        record { datagrams = rw q (append-nil (datagram_of u h) ∙ ap (datagram_of u) (sym (append-nil h))); line = rw q; number = rw q }
    by false q next =
        let f : suc (line_end s) < suc (length s) = rw q at l in
        let w = next (omega arith) in
        record {
          datagrams = rw q (w.datagrams ∙ ap (datagram_of u) (append_assoc h (b ∷ []) (take (line_end s) s)));
          line = rw q w.line;
          number = rw q w.number;
        }
