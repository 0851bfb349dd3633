-- `motion::difference` meets its contract. Assumes nothing.
use Rattle.std.proofs.Common.{◌≡◌, ◌+◌, ◌*◌, ◌/◌, ◌%◌, ℤ, pos, ◌+ℤ◌, ◌-ℤ◌, ◌∙◌, arith, w32, SFits}
use mir.ValLaws.{to_z-of_z, to_z_pos}
use Rattle.integers.proofs.Folding.{wrapped_low, wrapped_high, wrapped_fits}
use Rattle.integers.proofs.Signed.{passed}
use Rattle.motion.specs.Totals.{difference}
use Rattle.motion.proofs.difference.Goals as goal
use Rattle.motion.proofs.difference.Goals.{After-above_least, After-above_least-2, After-wrapping_sub_u32-d}

-- what the wrapping difference gives, by the tie of the place after it
wrapped : (c : After-wrapping_sub_u32-d) →
    let sum = c.wrapping_sub_u32-d.result + c.before.above_least-2.result in
    sum ≡ c.before.before.above_least.result + 16777216 * (sum / 4294967296 * 256)
wrapped c = omega (arith, c.wrapping_sub_u32-d.ensures)

-- a signed argument reaches the callee as what is read back from its bits
new_above : (c : After-above_least) → pos c.above_least.result ≡ c.before.args.new +ℤ pos 2147483648
new_above c = passed w32 (λ (z : ℤ). z +ℤ pos 2147483648) c.before.args.new c.before.ranges.new c.above_least.ensures

old_above : (c : After-above_least-2) → pos c.above_least-2.result ≡ c.before.before.args.old +ℤ pos 2147483648
old_above c =
    passed w32 (λ (z : ℤ). z +ℤ pos 2147483648) c.before.before.args.old c.before.before.ranges.old c.above_least-2.ensures

pub returns-then-d-lt8388608 : goal.returns-then-d-lt8388608
unfolding difference
returns-then-d-lt8388608 c =
    let a = c.args in
    let r = c.wrapping_sub_u32-d.result in
    to_z_pos w32 _ (omega arith)
    ∙ wrapped_low a.new a.old 2147483648 _ _ r _ (new_above (goal.at.returns-then-d-lt8388608 c).After-above_least) (old_above (goal.at.returns-then-d-lt8388608 c).After-above_least-2) (wrapped (goal.at.returns-then-d-lt8388608 c).After-wrapping_sub_u32-d) (omega arith)

pub returns-else-d-lt8388608 : goal.returns-else-d-lt8388608
unfolding difference
returns-else-d-lt8388608 c =
    let a = c.args in
    let r = c.wrapping_sub_u32-d.result in
    let f : SFits w32 (pos (r % 16777216) -ℤ pos 16777216) = record { sfits = omega (arith, wrapped_fits r) } in
    rw (to_z_pos w32 (r % 16777216) (omega arith))
    (to_z-of_z w32 (pos (r % 16777216) -ℤ pos 16777216) f
    ∙ wrapped_high a.new a.old 2147483648 _ _ r _ (new_above (goal.at.returns-else-d-lt8388608 c).After-above_least) (old_above (goal.at.returns-else-d-lt8388608 c).After-above_least-2) (wrapped (goal.at.returns-else-d-lt8388608 c).After-wrapping_sub_u32-d) (omega arith))
