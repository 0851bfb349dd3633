-- The total of an axis stands for the change of the true value: demand 3 of one axis, from any axis that has not begun (01, Totals). Assumes nothing.
use Rattle.std.proofs.Common.{◌≡◌, ℕ, zero, suc, ◌+◌, ◌-◌, ◌*◌, ◌^◌, ◌<◌, ◌≤◌, Bool, true, false, cond, List, [], ◌∷◌, map, length, get_or, take, ℤ, pos, ◌+ℤ◌, ◌-ℤ◌, nat_abs, sym, refl, ap, ◌∙◌, subst, arith, length-take}
use Rattle.integers.specs.Rounding.{floor}
use Rattle.integers.proofs.Parts.{sub_self, sub_chain}
use Rattle.integers.proofs.Rounding.{floor_near, floor_within}
use Rattle.integers.proofs.Folding.{range_of_abs, fold_id, fold_sub}
use Rattle.motion.specs.declared.Axis.{Axis}
use Rattle.motion.proofs.Bounds.{kept_after, after_within}
use Rattle.motion.specs.Totals.{Sighting, difference, fit_step, axis_step, after, fit_readings, fit_before, none}
use Rattle.motion.specs.Totals.{reading_of, CloseFrom, Close, Stands}

-- the difference of two readings is that of the true values rounded down, where these are close
difference_of : (d : ℕ) → 0 < d → (t u : ℤ) → nat_abs (u -ℤ t) < (2 ^ 23 - 1) * d
    → difference (reading_of d u) (reading_of d t) ≡ floor u d -ℤ floor t d
unfolding difference reading_of
difference_of d h t u k =
    let x = floor u d -ℤ floor t d in
    let n : nat_abs x ≤ 8388607 = floor_near t u d 8388607 h k in
    fold_sub (floor u d) (floor t d) ∙ fold_id x (range_of_abs x (omega arith))

-- neighbours that are one fine unit nearer than the bound are close
close_met : Close 1000 (pos 0 ∷ pos 8388606999 ∷ pos 0 ∷ [])
unfolding Close CloseFrom
close_met = (omega arith, (omega arith, tt))

-- ---- a fit datagram and an unfit one

step_fit : (a : Axis) (s : Sighting) → s.fit ≡ true → axis_step a s ≡ fit_step a s.reading
unfolding axis_step
step_fit a s e = rw e

step_unfit : (a : Axis) (s : Sighting) → s.fit ≡ false → axis_step a s ≡ a
unfolding axis_step
step_unfit a s e = rw e

-- ---- the axis at the true value t, counted from t₀

abbrev standing : ℕ → ℤ → ℤ → Axis
standing d t₀ t = record { begun = true; last = reading_of d t; total = floor t d -ℤ floor t₀ d }

-- the first fit datagram makes the total 0, whatever the axis held
at_first : (d : ℕ) (a : Axis) → a.begun ≡ false → (t : ℤ) → fit_step a (reading_of d t) ≡ standing d t t
unfolding fit_step
at_first d a e t = rw (e, sub_self (floor t d))

at_next : (d : ℕ) → 0 < d → (t₀ t u : ℤ) → nat_abs (u -ℤ t) < (2 ^ 23 - 1) * d → fit_step (standing d t₀ t) (reading_of d u) ≡ standing d t₀ u
unfolding fit_step
at_next d h t₀ t u k =
    ap (λ (z : ℤ). record { begun = true; last = reading_of d u; total = z })
    (ap (λ (z : ℤ). (floor t d -ℤ floor t₀ d) +ℤ z) (difference_of d h t u k) ∙ sub_chain (floor t₀ d) (floor t d) (floor u d))

stands : (d : ℕ) → 0 < d → (t₀ t : ℤ) {a : Axis} → a ≡ standing d t₀ t → Stands d t₀ t a
stands d h t₀ t e = rw e (record { begun = refl; exact = refl; near = floor_within t₀ t d h })

-- ---- the claim at each place

module _ (d : ℕ) (h : 0 < d) (t₀ : ℤ) where
  -- the axis awaits the true values ts: it has not begun and t₀ is the first of them, or it stands at a value close to the first of them
  data Awaits : Axis → List ℤ → Type 0 where
    idle : {a : Axis} {ts : List ℤ} → a.begun ≡ false → get_or ts 0 (pos 0) ≡ t₀ → Close d ts → Awaits a ts
    going : {a : Axis} {ts : List ℤ} (t : ℤ) → a ≡ standing d t₀ t → CloseFrom d t ts → Awaits a ts

  next : {a : Axis} {u : ℤ} {us : List ℤ} → Awaits a (u ∷ us) → (fit_step a (reading_of d u) ≡ standing d t₀ u) × CloseFrom d u us
  unfolding Close CloseFrom
  next {a} {u} {us} (idle e f k) = (at_first d a e u ∙ ap (λ (t : ℤ). standing d t u) f, k)
  next {u} (going t e k) =
      let near : nat_abs (u -ℤ t) < (2 ^ 23 - 1) * d = omega (arith, k.0) in
      (ap (λ (x : Axis). fit_step x (reading_of d u)) e ∙ at_next d h t₀ t u near, k.1)

  AtEach : Axis → List Sighting → List ℤ → Type 0
  AtEach a ds ts = (i : ℕ) → i < length ds → (get_or ds i none).fit ≡ true → Stands d t₀ (get_or ts (fit_before ds i) (pos 0)) (after a (take (suc i) ds))

  after_unfit : (a : Axis) (s : Sighting) (ds : List Sighting) (ts : List ℤ) → s.fit ≡ false → AtEach a ds ts → AtEach a (s ∷ ds) ts
  unfolding AtEach fit_before fit_readings after
  after_unfit a s ds ts e f zero l g = let z : ◌≡◌ {A = ℕ} 0 1 = cc in absurd (omega arith)
  after_unfit a s ds ts e f (suc i) l g =
      let rs = fit_readings (take i ds) in
      subst (λ (x : Axis). Stands d t₀ (get_or ts (fit_before (s ∷ ds) (suc i)) (pos 0)) (after x (take (suc i) ds))) (sym (step_unfit a s e))
      (subst (λ (b : Bool). Stands d t₀ (get_or ts (length (cond b (s.reading ∷ rs) rs)) (pos 0)) (after a (take (suc i) ds))) (sym e)
      (f i (omega arith) g))

  after_fit : (a : Axis) (s : Sighting) (ds : List Sighting) (u : ℤ) (us : List ℤ) → s.fit ≡ true → axis_step a s ≡ standing d t₀ u
      → AtEach (standing d t₀ u) ds us → AtEach a (s ∷ ds) (u ∷ us)
  unfolding AtEach fit_before fit_readings after
  after_fit a s ds u us e q f zero l g = stands d h t₀ u q
  after_fit a s ds u us e q f (suc i) l g =
      let rs = fit_readings (take i ds) in
      let x = after (standing d t₀ u) (take (suc i) ds) in
      subst (λ (y : Axis). Stands d t₀ (get_or (u ∷ us) (fit_before (s ∷ ds) (suc i)) (pos 0)) (after y (take (suc i) ds))) (sym q)
      (subst (λ (b : Bool). Stands d t₀ (get_or (u ∷ us) (length (cond b (s.reading ∷ rs) rs)) (pos 0)) x) (sym e)
      (f i (omega arith) g))

  at_each : (ds : List Sighting) (ts : List ℤ) (a : Axis) → Awaits a ts → fit_readings ds ≡ map (reading_of d) ts → AtEach a ds ts
  unfolding AtEach fit_readings
  at_each [] ts a w e = λ i l g. absurd (omega arith)
  at_each (s ∷ ds) ts a w e = by s.fit refl ts w e (λ ts' a' w' e'. at_each ds ts' a' w' e')
    where
      by : (b : Bool) → s.fit ≡ b → (ts : List ℤ) → Awaits a ts → cond s.fit (s.reading ∷ fit_readings ds) (fit_readings ds) ≡ map (reading_of d) ts
          → ((ts' : List ℤ) (a' : Axis) → Awaits a' ts' → fit_readings ds ≡ map (reading_of d) ts' → AtEach a' ds ts') → AtEach a (s ∷ ds) ts
      by false p ts w e r = after_unfit a s ds ts p (r ts a w (rw p at e))
      by true p [] w e r = let f = rw p at e in let z : ◌≡◌ {A = ℕ} 0 1 = cc in absurd (omega arith)
      by true p (u ∷ us) w e r =
          let f : s.reading ∷ fit_readings ds ≡ reading_of d u ∷ map (reading_of d) us = rw p at e in
          let g : s.reading ≡ reading_of d u = cc in
          let k : fit_readings ds ≡ map (reading_of d) us = cc in
          let n = next w in
          after_fit a s ds u us p (step_fit a s p ∙ ap (fit_step a) g ∙ n.0) (r us (standing d t₀ u) (going u refl n.1) k)

-- Where the fit ones carry, in order, the true values ts rounded down and folded, neighbours of which are close: after the datagram at each
-- place i, if that is fit, the axis stands for the change from the first of ts to the one that this datagram carries.
pub total_at_each : (d : ℕ) → 0 < d → (a : Axis) → a.begun ≡ false
    → (ds : List Sighting) (ts : List ℤ) → fit_readings ds ≡ map (reading_of d) ts → Close d ts
    → (i : ℕ) → i < length ds → (get_or ds i none).fit ≡ true
    → Stands d (get_or ts 0 (pos 0)) (get_or ts (fit_before ds i) (pos 0)) (after a (take (suc i) ds))
unfolding AtEach
total_at_each d h a e ds ts f k = at_each d h (get_or ts 0 (pos 0)) ds ts a (idle e refl k) f

-- the same of the axis as the code steps it, for a total within n datagrams' bound and at most 2 ^ 30 datagrams in all
pub kept_at_each : (d : ℕ) → 0 < d → (a : Axis) (n : ℕ) → a.begun ≡ false → nat_abs a.total ≤ n * 8388608
    → (ds : List Sighting) (ts : List ℤ) → n + length ds ≤ 2 ^ 30 → fit_readings ds ≡ map (reading_of d) ts → Close d ts
    → (i : ℕ) → i < length ds → (get_or ds i none).fit ≡ true
    → Stands d (get_or ts 0 (pos 0)) (get_or ts (fit_before ds i) (pos 0)) (kept_after true a (take (suc i) ds))
kept_at_each d h a n e b ds ts m f k i l g =
    subst (λ (x : Axis). Stands d (get_or ts 0 (pos 0)) (get_or ts (fit_before ds i) (pos 0)) x)
    (sym (after_within a (take (suc i) ds) n b (omega (arith, length-take (suc i) ds)))) (total_at_each d h a e ds ts f k i l g)

-- ---- that value is there: the datagram at a place carries the value numbered by the fit ones before it

module _ (f : ℤ → ℤ) where
  abbrev Carried : List Sighting → List ℤ → ℕ → Type 0
  Carried ds ts i = (fit_before ds i < length ts) × ((get_or ds i none).reading ≡ f (get_or ts (fit_before ds i) (pos 0)))

  carried_by_lem : (s : Sighting) (ds : List Sighting) (b : Bool) → s.fit ≡ b
      → (ts : List ℤ) → cond s.fit (s.reading ∷ fit_readings ds) (fit_readings ds) ≡ map f ts
      → ((us : List ℤ) → fit_readings ds ≡ map f us → (i : ℕ) → i < length ds → (get_or ds i none).fit ≡ true → Carried ds us i)
      → (i : ℕ) → i < length (s ∷ ds) → (get_or (s ∷ ds) i none).fit ≡ true → Carried (s ∷ ds) ts i
  unfolding fit_before fit_readings
  carried_by_lem s ds false p ts e r zero l g = let z : ◌≡◌ {A = ℕ} 0 1 = cc in absurd (omega arith)
  carried_by_lem s ds false p ts e r (suc i) l g = rw p (r ts (rw p at e) i (omega arith) g)
  carried_by_lem s ds true p [] e r i l g = let q = rw p at e in let z : ◌≡◌ {A = ℕ} 0 1 = cc in absurd (omega arith)
  carried_by_lem s ds true p (u ∷ us) e r zero l g = let q : s.reading ∷ fit_readings ds ≡ f u ∷ map f us = rw p at e in (omega arith, cc)
  carried_by_lem s ds true p (u ∷ us) e r (suc i) l g =
      let q : s.reading ∷ fit_readings ds ≡ f u ∷ map f us = rw p at e in
      let k : fit_readings ds ≡ map f us = cc in
      let m = r us k i (omega arith) g in
      rw p (omega arith, m.1)

  pub carried_at : (ds : List Sighting) (ts : List ℤ) → fit_readings ds ≡ map f ts → (i : ℕ) → i < length ds → (get_or ds i none).fit ≡ true
      → (fit_before ds i < length ts) × ((get_or ds i none).reading ≡ f (get_or ts (fit_before ds i) (pos 0)))
  unfolding fit_readings
  carried_at [] ts e i l g = absurd (omega arith)
  carried_at (s ∷ ds) ts e i l g = carried_by_lem s ds s.fit refl ts e (λ us k j m n. carried_at ds us k j m n) i l g

-- ---- and each value is carried by a datagram: the one at some place, numbered by the fit ones before it

place_by : (s : Sighting) (ds : List Sighting) (b : Bool) → s.fit ≡ b
    → ((k : ℕ) → k < length (fit_readings ds) → (i : ℕ) × (i < length ds) × ((get_or ds i none).fit ≡ true) × (fit_before ds i ≡ k))
    → (k : ℕ) → k < length (cond b (s.reading ∷ fit_readings ds) (fit_readings ds))
    → (i : ℕ) × (i < length (s ∷ ds)) × ((get_or (s ∷ ds) i none).fit ≡ true) × (fit_before (s ∷ ds) i ≡ k)
unfolding fit_before fit_readings
place_by s ds true e r zero h = (0, omega arith, e, refl)
place_by s ds true e r (suc k) h = let p = r k (omega arith) in (suc p.0, omega (arith, p.1), p.2, rw e (ap suc p.3))
place_by s ds false e r k h = let p = r k h in (suc p.0, omega (arith, p.1), p.2, rw e p.3)

pub place_of : (ds : List Sighting) (k : ℕ) → k < length (fit_readings ds)
    → (i : ℕ) × (i < length ds) × ((get_or ds i none).fit ≡ true) × (fit_before ds i ≡ k)
unfolding fit_readings
place_of [] k h = absurd (omega arith)
place_of (s ∷ ds) k h = place_by s ds s.fit refl (λ j l. place_of ds j l) k h
