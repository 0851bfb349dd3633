-- 01, What is turned down, 10, and 02, 2.5: what it asks of a session, clause by clause in the papers' order, as facts and not as tests.
use Rattle.std.specs.Prelude.{ℕ, ◌+◌, ◌*◌, ◌^◌, ◌≤◌, ◌<◌, Bool, true, false, ◌&&◌, ◌⊎◌, ◌≡◌, nat_abs, length, get_or}
use Rattle.std.proofs.Math.Option.{none}
use Rattle.integers.specs.Ranges.{in_reading}
use Rattle.setup.specs.Setup.{setup_number, length_of}
use Rattle.motion.specs.Totals.{no_axis, keeps, axis_at}
use Rattle.motion.specs.declared.Axis.{Axis}
use Rattle.doubt.specs.Doubt.{no_doubt, doubt_at}
use Rattle.doubt.specs.declared.AxisDoubt.{AxisDoubt}
use Rattle.history.specs.History.{awaits_first}
use Rattle.search.specs.Search.{limits_of}
use Rattle.session.specs.declared.Session.{Session}

-- of an axis, after so many datagrams; kept: whether its group keeps totals, first: whether the next datagram counts as a first one
pub record AxisPasses (kept first : Bool) (datagrams : ℕ) (a : Axis) : Type 0 where
  -- its total is at most datagrams × 2 ^ 23 in size
  pub total : nat_abs a.total ≤ datagrams * 2 ^ 23
  -- its kept reading is in 24 bits
  pub last : in_reading a.last ≡ true
  -- not begun, or keeping no total, it is all zero
  pub idle : (kept && a.begun) ≡ false → a ≡ no_axis
  -- it has not begun while the next datagram counts as a first one
  pub start : first ≡ true → a.begun ≡ false

-- of what is kept of a gyro axis beside its total; going: whether the axis keeps a total and has begun
pub record DoubtPasses (going : Bool) (q : AxisDoubt) : Type 0 where
  -- its sum is at most 65,535
  pub sum : q.samples.0 ≤ 65535
  -- not begun, or keeping no total, it is 0 and without a mark
  pub idle : going ≡ false → q ≡ no_doubt

-- feeding doesn't turn the session down by 10
pub record PassesTen (s : Session) : Type 0 where
  -- its setup would not be refused
  pub setup : setup_number s.setup ≡ none
  -- its held bytes are none, or begin with the identifier and number less than L; as many as it counts are there
  pub there : s.count ≤ length s.held
  pub held : (s.count ≡ 0) ⊎ ((get_or s.held 0 0 ≡ s.setup.identifier) × (s.count < length_of s.setup))
  -- they are zero beyond their count
  pub rest : (i : ℕ) → s.count ≤ i → get_or s.held i 0 ≡ 0
  -- L × datagrams + passed over + held is bytes fed
  pub sum : length_of s.setup * s.history.datagrams.0 + s.passed + s.count ≡ s.fed
  -- that doesn't exceed the session's limit
  pub most : s.fed ≤ (limits_of s.setup).session
  -- each axis of each group is right
  pub axes :
      (group axis : ℕ) → group < 3 → axis < 3
      → AxisPasses (keeps s.setup group) (awaits_first s.history) s.history.datagrams.0 (axis_at s.history.axes group axis)
  -- and what is kept of each gyro axis beside its total
  pub doubt :
      (axis : ℕ) → axis < 3 → DoubtPasses (keeps s.setup 0 && (axis_at s.history.axes 0 axis).begun) (doubt_at s.history.doubt axis)
