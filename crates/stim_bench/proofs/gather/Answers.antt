-- `stim_bench::gather` meets its contract: each part's lines come behind those of the parts before it. Assumes nothing.
use mathlib.Core.Path.{◌≡◌, sym, ap, ◌∙◌}
use mathlib.Core.List.{List, ◌++◌}
use Prim.Native.Nat.{ℕ, ◌+◌, ◌-◌, ◌≤◌, ◌<◌}
use native.Mathlib.Omega.{arith}
use borrow.Author.Rules.{rules}
use borrow.Rule.Slice.PartMut.{mid_of}
use lib.ListN.{length, drop, length-drop}
use Rattle.whole_piece.specs.Lines.{lines_in}
use Rattle.stim_bench.specs.Bench.{part_lines, with_text}
use Rattle.stim_bench.proofs.PartLaws.{front_feedable}
use Rattle.stim_bench.proofs.GatherLaws.{gathering_none, gathering_more, gathering_some, gathered, part_cut, rest_cut}
use Rattle.stim_bench.proofs.gather.Goals as goal

pub loop-part-init : goal.loop-part-init
loop-part-init c = (gathering_none c.args.start c.args.bytes.now c.args.output.now c.requires.0 (search rules), search rules, search rules)

pub feed_part-fed-requires : goal.feed_part-fed-requires
feed_part-fed-requires c =
    let v = c.loop-part.invariant in
    let F = front_feedable c.args.start c.args.bytes.now c.requires.0 v.0.front in
    let s = c.in-Some.ensures.steps.1 in (
      record { sound = F.sound; room = omega (arith, F.room, s.1, ap length v.1, length-drop c.loop-part.taken c.args.bytes.now) },
      omega (arith, s.1, v.2),
      omega (arith, c.if-output-used-lt-ENOUGH.false),
    )

-- what the turn leaves
pub loop-part-preserved : goal.loop-part-preserved
loop-part-preserved c =
    let v = c.loop-part.invariant in
    let s = c.in-Some.ensures.steps in
    let p = c.args.bytes.now in
    let at = c.loop-part.taken in
    let t = c.loop-part.session in
    let part = c.in-Some.part.now in
    let f = c.feed_part-fed in
    let e : drop at p ≡ part ++ c.next.new.self.rest.now = sym v.1 ∙ s.1.0 in
    let cut = part_cut p part c.next.new.self.rest.now at e in
    let more : at < at + length part = omega (arith, s.1.1, s.1.2, v.2) in
    let most : at + length part ≤ length p = omega (arith, s.1.1, ap length v.1, length-drop at p, v.0.front.within) in (
      gathering_more c.args.start p c.args.output.now c.requires.0 v.0 more most (f.ensures.answer ∙ ap (part_lines t) cut)
          (f.ensures.written ∙ ap (λ (y : List ℕ). with_text (lines_in t y) (mid_of c.loop-part.used (length c.loop-part.output - c.loop-part.used) c.loop-part.output)) cut) f.auto.output,
      rest_cut p part c.next.new.self.rest.now at e,
      s.0 ∙ v.2,
    )

pub returns-in-None : goal.returns-in-None
returns-in-None c =
    let v = c.loop-part.invariant in
    gathered c.args.start c.args.bytes.now c.args.output.now c.requires.0 v.0
    (λ h. omega (arith, c.in-None.ensures.steps.1.0, ap length v.1, length-drop c.loop-part.taken c.args.bytes.now))

pub returns-then-output-used-lt-ENOUGH : goal.returns-then-output-used-lt-ENOUGH
returns-then-output-used-lt-ENOUGH c =
    let G = c.loop-part.invariant.0 in
    gathered c.args.start c.args.bytes.now c.args.output.now c.requires.0 G
    (λ h. gathering_some c.args.start c.args.bytes.now c.args.output.now c.requires.0 G c.requires.1 c.if-output-used-lt-ENOUGH.true)
