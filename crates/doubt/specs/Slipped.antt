-- 02, 2.5: where a total may have slipped, read off the datagrams alone, and the true angles of which the promise speaks.
use Rattle.std.specs.Prelude.{ℕ, suc, ◌+◌, ◌-◌, ◌*◌, ◌%◌, ◌≤◌, ◌<◌, true, false, List, [], ◌∷◌, ◌++◌, ◌⊎◌, ◌≡◌, ℤ, pos, nat_abs, ◌-ℤ◌, length, get_or}
use Rattle.gaps.specs.Gaps.{elapsed}
use Rattle.motion.specs.Totals as totals
use Rattle.motion.specs.Totals.{Sighting, reading_of}

-- one datagram as a gyro axis sees it, with its counter
pub record Counted : Type 0 where
  pub sighting : Sighting
  pub counter : ℕ

-- what stands beyond the last
abbrev pub none : Counted
none = record { sighting = totals.none; counter = 0 }

-- ---- where a total may have slipped

-- the d's, 1 to 256 each, of datagrams behind one with this counter, added up
unfoldable pub samples_over : ℕ → List Counted → ℕ
samples_over previous [] = 0
samples_over previous (d ∷ ds) = (elapsed previous d.counter).0 + samples_over d.counter ds

-- all of them are unfit
unfoldable pub AllUnfit : List Counted → Type 0
AllUnfit [] = Unit {0}
AllUnfit (d ∷ ds) = (d.sighting.fit ≡ false) × AllUnfit ds

-- the total is doubtful behind so many samples from a fit datagram to the next: more than 16, or the rate is 0
abbrev pub Doubtful : ℕ → ℕ → Type 0
Doubtful rate n = (16 < n) ⊎ (rate ≡ 0)

-- among these datagrams stand two fit ones, none fit between them, and the d's of those behind the earlier, up to and including the later, add up to
-- more than 16, or the rate is 0
pub record MaySlip (rate : ℕ) (ds : List Counted) : Type 0 where
  pub before : List Counted
  pub earlier : Counted
  pub between : List Counted
  pub later : Counted
  pub behind : List Counted
  pub parts : ds ≡ before ++ (earlier ∷ (between ++ (later ∷ behind)))
  pub fit_earlier : earlier.sighting.fit ≡ true
  pub unfit_between : AllUnfit between
  pub fit_later : later.sighting.fit ≡ true
  pub far : Doubtful rate (samples_over earlier.counter (between ++ (later ∷ [])))

-- ---- the true angles

-- 100 × the change of the true angle in one internal sample is at most this × fine, where fine is the paper's D, the fine units in an output step: 480 °/s
-- with shift 21 (DoubtRules.full-rate)
abbrev pub greatest_turn : ℕ
greatest_turn = 50331648

-- from a datagram with the counter `previous` and the true angle t to the next, with `counter` and u: n samples, 1 to 255, by which the counters differ
-- modulo 256
pub record Turn (fine previous counter : ℕ) (t u : ℤ) : Type 0 where
  pub samples : ℕ
  pub some : 1 ≤ samples
  pub few : samples ≤ 255
  pub counted : (previous + samples) % 256 ≡ counter
  pub bounded : 100 * nat_abs (u -ℤ t) ≤ samples * (greatest_turn * fine)

-- true angles, one for each datagram: from each to the next as above, and each fit datagram carries its angle over fine rounded down and folded
pub record TrueAngles (fine : ℕ) (ds : List Counted) (angles : List ℤ) : Type 0 where
  pub one_each : length angles ≡ length ds
  pub turns :
      (i : ℕ) → suc i < length ds
      → Turn fine (get_or ds i none).counter (get_or ds (suc i) none).counter (get_or angles i (pos 0)) (get_or angles (suc i) (pos 0))
  pub carried :
      (i : ℕ) → i < length ds → (get_or ds i none).sighting.fit ≡ true → (get_or ds i none).sighting.reading ≡ reading_of fine (get_or angles i (pos 0))

-- ---- the same with a true angle at each internal sample

-- from a datagram at the sample p to the next, at q
pub record SampledTurn (fine previous counter : ℕ) (angle : ℕ → ℤ) (p q : ℕ) : Type 0 where
  pub some : p < q
  pub few : q ≤ p + 255
  pub counted : (previous + (q - p)) % 256 ≡ counter
  pub bounded : (m : ℕ) → p ≤ m → m < q → 100 * nat_abs (angle (suc m) -ℤ angle m) ≤ greatest_turn * fine

-- at: the sample of each datagram
pub record SampledAngles (fine : ℕ) (ds : List Counted) (angle : ℕ → ℤ) (at : List ℕ) : Type 0 where
  pub one_each : length at ≡ length ds
  pub turns :
      (i : ℕ) → suc i < length ds
      → SampledTurn fine (get_or ds i none).counter (get_or ds (suc i) none).counter angle (get_or at i 0) (get_or at (suc i) 0)
  pub carried :
      (i : ℕ) → i < length ds → (get_or ds i none).sighting.fit ≡ true → (get_or ds i none).sighting.reading ≡ reading_of fine (angle (get_or at i 0))

-- ---- the first fit one

pub record FirstFit (ds : List Counted) (k : ℕ) : Type 0 where
  pub there : k < length ds
  pub fit : (get_or ds k none).sighting.fit ≡ true
  pub none_before : (m : ℕ) → m < k → (get_or ds m none).sighting.fit ≡ false
