-- A chunk less at each turn, in which no count is for the offset.
use Rattle.std.specs.Prelude.{Some}
use Prim.Native.Nat.{◌+◌, ◌-◌, ◌*◌, ◌/◌, ◌≤◌}
use mathlib.Core.Path.{ap, ◌∙◌}
use native.Mathlib.Omega.{arith}
use Rattle.le.specs.Number.{number}
use Rattle.dcpi.specs.Samples.{spacing, totals_at}
use Rattle.dcpi.proofs.Rules.{passed_parts}
use Rattle.dcpi.proofs.Finding.{kept_here, finding_none, finding_all, finding_before, hit_inside, finding_here, finding_more}
use Rattle.dcpi.proofs.find.Goals as goal
use Rattle.dcpi.proofs.find.Goals.{Then-i-size, Else-i-size}

-- a chunk with a count for the offset: the count lies before the totals
inside : (c : Then-i-size) → c.loop-p.p + 8 + (c.args.offset - c.load_u32-first.result) / spacing * 4 + 4 ≤ totals_at c.args.samples.now
inside c =
    hit_inside c.args.samples.now c.args.offset c.loop-p.invariant c.loop-p-test.true c.load_u32-first.ensures
    c.load_u32-size.ensures c.if-offset-first.false c.if-i-size.true

-- one with none: it ends before the totals
ends : (c : Else-i-size) → c.loop-p.p + 8 + c.load_u32-size.result * 4 ≤ totals_at c.args.samples.now
ends c =
    let kept = kept_here c.args.samples.now c.loop-p.invariant.kept c.loop-p-test.true in
    omega (arith, kept.fits, c.load_u32-size.ensures)

-- ----

pub overflow_sub-end : goal.overflow_sub-end
overflow_sub-end c = (passed_parts c.args.samples.now c.requires).0

pub loop-p-init : goal.loop-p-init
loop-p-init c = finding_none c.args.samples.now c.args.offset (passed_parts c.args.samples.now c.requires).1.0

pub returns-then-offset-first : goal.returns-then-offset-first
returns-then-offset-first c =
    finding_before c.args.samples.now c.args.offset c.loop-p.invariant c.loop-p-test.true
    (omega (arith, c.if-offset-first.true, c.load_u32-first.ensures))

pub overflow_add-p-then-i-size : goal.overflow_add-p-then-i-size
overflow_add-p-then-i-size c = omega (arith, inside c)

pub overflow_mul-i : goal.overflow_mul-i
overflow_mul-i c = omega (arith, inside c)

pub overflow_add-p-then-i-size-2 : goal.overflow_add-p-then-i-size-2
overflow_add-p-then-i-size-2 c = omega (arith, inside c)

pub load_u32-requires : goal.load_u32-requires
load_u32-requires c = omega (arith, inside c)

pub returns-then-i-size : goal.returns-then-i-size
returns-then-i-size c =
    ap Some (c.load_u32.ensures ∙ ap (number 4 c.args.samples.now) (omega arith))
    ∙ finding_here c.args.samples.now c.args.offset c.loop-p.invariant c.loop-p-test.true c.load_u32-first.ensures
    c.load_u32-size.ensures c.if-offset-first.false c.if-i-size.true

pub overflow_add-p-in-loop-p : goal.overflow_add-p-in-loop-p
overflow_add-p-in-loop-p c = omega (arith, ends c)

pub overflow_mul-p : goal.overflow_mul-p
overflow_mul-p c = omega (arith, ends c)

pub overflow_add-p-in-loop-p-2 : goal.overflow_add-p-in-loop-p-2
overflow_add-p-in-loop-p-2 c = omega (arith, ends c)

pub loop-p-smaller : goal.loop-p-smaller
loop-p-smaller c = omega (arith, ends c, c.loop-p-test.true)

pub loop-p-preserved : goal.loop-p-preserved
loop-p-preserved c =
    finding_more c.args.samples.now c.args.offset c.loop-p.invariant c.loop-p-test.true c.load_u32-first.ensures
    c.load_u32-size.ensures c.if-offset-first.false c.if-i-size.false

pub returns : goal.returns
returns c = finding_all c.args.samples.now c.args.offset c.loop-p.invariant c.loop-p-test.false
