-- Bytes taken one part after the other: the line under way behind them, and their datagrams in the buffer one behind the other. Assumes nothing.
use Prim.Native.Nat.{ℕ, zero, suc, ◌+◌, ◌-◌, ◌≤◌, ◌<◌}
use mathlib.Core.Path.{◌≡◌, refl, sym, ap, ◌∙◌, subst}
use mathlib.Core.List.{List, [], ◌++◌}
use native.Mathlib.Omega.{arith}
use borrow.Rule.Slice.PartMut.{mid_of, put_mid, mid_len}
use lib.ListN.{length, take, drop, length-append, length-take, length-drop}
use lib.Seq.{take_all, take_at, take-add, sets, length-sets}
use Rattle.integers.proofs.Buffers.{to_end, sets_append, put_front, put_part}
use Rattle.setup.specs.declared.Setup.{Setup}
use Rattle.setup_line.specs.SetupLine.{line_end}
use Rattle.stim_make.specs.MadeLines.{datagram_of, datagrams_in, line_in, next_number, number_in, line_of, with_text, Keeps, IsTaken}
use Rattle.stim_make.specs.declared.line.Line.{Line}
use Rattle.stim_make.specs.declared.Taken.{Taken}
use Rattle.stim_make.proofs.LineLaws.{datagrams_append, line_append, number_append, datagram_kept, datagrams_kept, line_kept, within, ended}

-- ---- up to the end of a line

module _ (u : Setup) (l : Line) (s b : List ℕ) {end : ℕ} {l' : Line} (e : end ≡ line_end s) (same : l'.number ≡ l.number)
    (K : Keeps l' (line_of l ++ take end s)) where
  -- none ends among the bytes
  pub taken_none : end ≡ length s → IsTaken u l s b b (record { taken = end; line = l'; made = 0 })
  taken_none q =
      let all : take end s ≡ s = take_all end s (omega arith) in
      let w = within u (line_of l) s l.number (sym e ∙ q) in
      let none : datagrams_in u (line_of l) (take end s) ≡ [] = ap (datagrams_in u (line_of l)) all ∙ w.datagrams in
      record {
        within = omega arith;
        some = λ h. omega arith;
        number = same ∙ sym (ap (number_in l.number) all ∙ w.number);
        line = subst (Keeps l') (ap (λ (t : List ℕ). line_of l ++ t) all ∙ sym w.line ∙ ap (line_in (line_of l)) (sym all)) K;
        made = ap length (sym none);
        text = ap (λ (t : List ℕ). with_text t b) (sym none);
      }

  -- one does, and its datagram is made
  pub taken_line :
      end ≤ length s → (end ≡ length s → ⊥) → {b' : List ℕ} {n : ℕ} → n ≡ length (datagram_of u (line_of l')) → b' ≡ with_text (datagram_of u (line_of l')) b
      → {l'' : Line} → l''.used ≡ 0 → l''.number ≡ next_number l'.number → IsTaken u l s b b' (record { taken = end + 1; line = l''; made = n })
  taken_line h q {b'} {n} made text {l''} empty next =
      let part : take (end + 1) s ≡ take (suc (line_end s)) s = let k : end + 1 ≡ suc (line_end s) = omega arith in ap (λ (m : ℕ). take m s) k in
      let w = ended u (line_of l) s l.number (omega arith) in
      let own : datagram_of u (line_of l') ≡ datagrams_in u (line_of l) (take (end + 1) s) =
      ap (datagram_of u) K.bytes
      ∙ datagram_kept u (line_of l ++ take end s)
      ∙ ap (λ (m : ℕ). datagram_of u (line_of l ++ take m s)) e
      ∙ sym w.datagrams
      ∙ ap (datagrams_in u (line_of l)) (sym part)
      in
      let begins : [] ≡ line_in (line_of l) (take (end + 1) s) = sym (ap (line_in (line_of l)) part ∙ w.line) in
      record {
        within = omega arith;
        some = λ m. omega arith;
        number = next ∙ ap next_number same ∙ sym (ap (number_in l.number) part ∙ w.number);
        line = subst (Keeps l'') begins (record { size = omega arith; bytes = ap (λ (m : ℕ). take m l''.bytes) empty });
        made = made ∙ ap length own;
        text = text ∙ ap (λ (t : List ℕ). with_text t b) own;
      }

-- ---- the first bytes of some

-- the line that is kept is one of its bytes
pub keeps_own : (l : Line) → l.used ≤ 513 → length l.bytes ≡ 513 → Keeps l (line_of l)
keeps_own l h e =
    let long : length (line_of l) ≡ l.used = length-take l.used l.bytes ∙ omega arith in
    record { size = omega arith; bytes = sym (take_all 513 (line_of l) (omega arith)) }

module _ (l : Line) (s : List ℕ) where
  -- the first `at` bytes of s were taken, and l' is the line under way
  pub record Front (l' : Line) (at : ℕ) : Type 0 where
    pub within : at ≤ length s
    pub number : l'.number ≡ number_in l.number (take at s)
    pub line : Keeps l' (line_in (line_of l) (take at s))

  pub front_none : l.used ≤ 513 → length l.bytes ≡ 513 → Front l 0
  unfolding number_in line_in
  front_none h e = record { within = omega arith; number = refl; line = keeps_own l h e }

  module _ {l' : Line} {at : ℕ} (F : Front l' at) where
    pub front_short : l'.used ≤ 513
    front_short = omega (arith, F.line.size)

    -- the next k of them
    abbrev part : ℕ → List ℕ
    part k = take k (take (length s - at) (drop at s))

    both : (k : ℕ) → take (at + k) s ≡ take at s ++ part k
    both k = take-add at k s ∙ ap (λ (t : List ℕ). take at s ++ take k t) (sym (to_end s at))

    rest_long : length (take (length s - at) (drop at s)) ≡ length s - at
    rest_long = ap length (to_end s at) ∙ length-drop at s

    -- were taken too
    pub front_more :
        {l'' : Line} (k : ℕ) → k ≤ length (take (length s - at) (drop at s)) → l''.number ≡ number_in l'.number (part k) → Keeps l'' (line_in (line_of l') (part k))
        → Front l'' (at + k)
    front_more {l''} k h n K =
        let h0 = line_in (line_of l) (take at s) in
        let under : take 513 (line_in (line_of l') (part k)) ≡ take 513 (line_in (line_of l) (take (at + k) s)) =
        ap (λ (t : List ℕ). take 513 (line_in t (part k))) F.line.bytes
        ∙ line_kept h0 (part k)
        ∙ ap (take 513) (sym (line_append (line_of l) (take at s) (part k)) ∙ ap (line_in (line_of l)) (sym (both k)))
        in
        record {
          within = omega (arith, rest_long, F.within);
          number =
              n ∙ ap (λ (m : ℕ). number_in m (part k)) F.number
              ∙ sym (number_append l.number (take at s) (part k))
              ∙ ap (number_in l.number) (sym (both k));
          line =
              record {
                size =
                    omega (
                      arith,
                      K.size,
                      ap length under,
                      length-take 513 (line_in (line_of l') (part k)),
                      length-take 513 (line_in (line_of l) (take (at + k) s)),
                    );
                bytes = K.bytes ∙ under;
              };
        }

    -- and their datagrams come behind the others
    pub front_datagrams : (u : Setup) (k : ℕ) → datagrams_in u (line_of l) (take (at + k) s) ≡ datagrams_in u (line_of l) (take at s) ++ datagrams_in u (line_of l') (part k)
    front_datagrams u k =
        ap (datagrams_in u (line_of l)) (both k)
        ∙ datagrams_append u (line_of l) (take at s) (part k)
        ∙ ap (λ (t : List ℕ). datagrams_in u (line_of l) (take at s) ++ t)
        (sym (ap (λ (t : List ℕ). datagrams_in u t (part k)) F.line.bytes ∙ datagrams_kept u (line_in (line_of l) (take at s)) (part k)))

-- ---- their datagrams one behind the other in the buffer

module _ (u : Setup) (l : Line) (s b : List ℕ) where
  -- n bytes of datagrams are at the front of the buffer, which was b and is b'
  pub record Gathering (b' : List ℕ) (l' : Line) (at n : ℕ) : Type 0 where
    pub front : Front l s l' at
    pub used : n ≡ length (datagrams_in u (line_of l) (take at s))
    pub text : b' ≡ sets b 0 (datagrams_in u (line_of l) (take at s))
    pub same : length b' ≡ length b
    pub fits : n ≤ length b
    pub begun : at ≡ 0 → n ≡ 0

  pub gathering_none : l.used ≤ 513 → length l.bytes ≡ 513 → Gathering b l 0 0
  unfolding datagrams_in
  gathering_none h e = record { front = front_none l s h e; used = refl; text = refl; same = refl; fits = omega arith; begun = λ z. refl }

  module _ {b' : List ℕ} {l' : Line} {at n : ℕ} (G : Gathering b' l' at n) where
    module _ {r : Taken} {last : List ℕ} (more : at < length s) (T : IsTaken u l' (take (length s - at) (drop at s)) (mid_of n (length b' - n) b') last r)
        (long : length last ≡ length (mid_of n (length b' - n) b')) where
      abbrev datagrams : List ℕ
      datagrams = datagrams_in u (line_of l') (take r.taken (take (length s - at) (drop at s)))

      datagrams_fit : n + length datagrams ≤ length b'
      datagrams_fit =
          omega (
            arith,
            G.fits,
            G.same,
            long,
            ap length T.text,
            length-append datagrams (drop (length datagrams) (mid_of n (length b' - n) b')),
            mid_len n (length b') b' (omega arith),
          )

      pub some_taken : 0 < r.taken
      some_taken = T.some (omega (arith, rest_long l s G.front))

      -- one more line
      pub gathering_more : Gathering (put_mid n (length b' - n) b' last) r.line (at + r.taken) (n + r.made)
      gathering_more =
          let a = datagrams_in u (line_of l) (take at s) in
          let k : n ≡ 0 + length a = omega (arith, G.used) in
          let both : datagrams_in u (line_of l) (take (at + r.taken) s) ≡ a ++ datagrams = front_datagrams l s G.front u r.taken in
          let text : put_mid n (length b' - n) b' last ≡ sets b 0 (datagrams_in u (line_of l) (take (at + r.taken) s)) =
          ap (put_mid n (length b' - n) b') T.text
          ∙ put_part b' datagrams n datagrams_fit
          ∙ ap (λ (y : List ℕ). sets y n datagrams) G.text
          ∙ ap (λ (m : ℕ). sets (sets b 0 a) m datagrams) k
          ∙ sym (sets_append b 0 a datagrams)
          ∙ ap (sets b 0) (sym both)
          in
          record {
            front = front_more l s G.front r.taken T.within T.number T.line;
            used = omega (arith, T.made, G.used, ap length both, length-append a datagrams);
            text = text;
            same = ap length text ∙ length-sets b 0 (datagrams_in u (line_of l) (take (at + r.taken) s));
            fits = omega (arith, T.made, datagrams_fit, G.same);
            begun = λ z. absurd (omega (arith, some_taken));
          }

    -- where no room is left for another, there was one
    pub gathering_some : 65 ≤ length b → length b' - n < 65 → 0 < at
    gathering_some room full = by at refl
      where
        by : (k : ℕ) → at ≡ k → 0 < at
        by zero z = absurd (omega (arith, G.begun z, G.same))
        by (suc k) z = omega arith

    pub gathered : (0 < length s → 0 < at) → IsTaken u l s b b' (record { taken = at; line = l'; made = n })
    gathered some =
        record {
          within = G.front.within;
          some = some;
          number = G.front.number;
          line = G.front.line;
          made = G.used;
          text = G.text ∙ put_front b (datagrams_in u (line_of l) (take at s)) (omega (arith, G.used, G.fits));
        }

-- ---- and written out

-- what is so behind a turn: more bytes were taken, and the front of the buffer has their datagrams
pub record Turn (u : Setup) (l : Line) (s : List ℕ) (l' : Line) (at : ℕ) (b' : List ℕ) (r : Taken) : Type 0 where
  pub front : Front l s r.line (at + r.taken)
  pub less : at < at + r.taken
  pub fits : r.made ≤ length b'
  pub datagrams : take r.made b' ≡ datagrams_in u (line_of l') (take (at + r.taken - at) (drop at s))

pub turned :
    (u : Setup) (l : Line) (s : List ℕ) {l' : Line} {at : ℕ} → Front l s l' at → at < length s
    → {b b' : List ℕ} {r : Taken} → IsTaken u l' (take (length s - at) (drop at s)) b b' r → Turn u l s l' at b' r
turned u l s {l'} {at} F h {b} {b'} {r} T =
    let d = datagrams_in u (line_of l') (take r.taken (take (length s - at) (drop at s))) in
    let part : take r.taken (take (length s - at) (drop at s)) ≡ take (at + r.taken - at) (drop at s) =
    let m : r.taken ≡ at + r.taken - at = omega arith in
    ap (take r.taken) (to_end s at) ∙ ap (λ (n : ℕ). take n (drop at s)) m
    in
    record {
      front = front_more l s F r.taken T.within T.number T.line;
      less = omega (arith, T.some (omega (arith, rest_long l s F)));
      fits = omega (arith, T.made, ap length T.text, length-append d (drop (length d) b));
      datagrams = ap (take r.made) T.text ∙ take_at d (drop (length d) b) r.made (sym T.made) ∙ ap (datagrams_in u (line_of l')) part;
    }
