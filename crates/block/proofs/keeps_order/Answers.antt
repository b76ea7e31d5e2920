-- The outer ids passed rise, and their sub-arrays are right; the next one starts at `start`.
use Rattle.block.specs.Block.{outer_ids}
use Rattle.block.specs.OnePass.{part_rule}
use Rattle.block.proofs.Order.{inner_end}
use Rattle.block.proofs.Parts.{start_fails, ids_fail, part_fails, all_pass}
use Rattle.seq.proofs.Every.{every_none, every_more}
use Rattle.seq.proofs.Rising.{rising_start, rising_not, rising_more, rising_all}
use mathlib.Core.Path.{◌≡◌, sym, ◌∙◌}
use native.Mathlib.Omega.{arith}
use Rattle.block.proofs.keeps_order.Goals as goal

pub returns-then-start_of-ne0 : goal.returns-then-start_of-ne0
returns-then-start_of-ne0 g c = λ h o w l.
    start_fails c.args.file.now h c.args.b (λ e. c.if-start_of-ne0.true (c.start_of.ensures h o ∙ e))

pub loop-i-init : goal.loop-i-init
loop-i-init g c = λ h o w l. (
  rising_start 0 1 (outer_ids c.args.file.now h c.args.b) c.args.b.count,
  every_none (part_rule c.args.file.now h c.args.b),
  λ m. sym c.if-start_of-ne0.false ∙ c.start_of.ensures h o,
)

pub returns-then-id-low : goal.returns-then-id-low
returns-then-id-low g c = λ h o w l.
    ids_fail c.args.file.now h c.args.b
    (rising_not (c.loop-i.invariant h o w l).0 c.loop-i-test.true (rw (c.id_at-id.ensures.value, ← o) at c.if-id-low.true))

pub returns-then-not-part_rule : goal.returns-then-not-part_rule
returns-then-not-part_rule g c = λ h o w l.
    let told = c.part_rule.ensures h c.loop-i.i w l ((c.loop-i.invariant h o w l).2 c.loop-i-test.true) (c.end_of-end.ensures h o) in
    part_fails c.args.file.now h c.args.b c.loop-i.i c.loop-i-test.true (sym told ∙ c.if-not-part_rule.true)

pub loop-i-preserved : goal.loop-i-preserved
loop-i-preserved g c = λ h o w l.
    let so_far = c.loop-i.invariant h o w l in
    let told = c.part_rule.ensures h c.loop-i.i w l (so_far.2 c.loop-i-test.true) (c.end_of-end.ensures h o) in (
      rw (c.id_at-id.ensures.value, ← o) (rising_more so_far.0 c.loop-i-test.true (rw (c.id_at-id.ensures.value, ← o) at c.if-id-low.false)),
      every_more (part_rule c.args.file.now h c.args.b) c.loop-i.i so_far.1 (sym told ∙ c.if-not-part_rule.false),
      λ m. c.end_of-end.ensures h o ∙ inner_end c.args.file.now h c.args.b c.loop-i.i m,
    )

pub returns : goal.returns
returns g c = λ h o w l.
    let so_far = c.loop-i.invariant h o w l in
    let e : c.loop-i.i ≡ c.args.b.count = omega (arith, so_far.0.within) in
    all_pass c.args.file.now h c.args.b (sym (c.start_of.ensures h o) ∙ c.if-start_of-ne0.false)
    (rising_all so_far.0 c.loop-i-test.false)
    (rw e at so_far.1)
