-- By where the place lies: before the section, past the end, past the section, inside.
use Rattle.text.proofs.Laws.{outside, count}
use native.Mathlib.Omega.{arith}
use mathlib.Core.Path.{sym}
use Rattle.text.proofs.count_from.Goals as goal

pub returns-then-place-start : goal.returns-then-place-start
returns-then-place-start c =
    sym (outside _ _ _ c.if-place-start.true)

pub returns-then-n-place : goal.returns-then-n-place
returns-then-n-place c =
    omega (arith, count c.args.file.now c.args.section c.args.place c.if-place-start.false)

pub returns-then-size-place : goal.returns-then-size-place
returns-then-size-place c =
    omega (arith, count c.args.file.now c.args.section c.args.place c.if-place-start.false)

pub returns-then-in_section-n : goal.returns-then-in_section-n
returns-then-in_section-n c =
    omega (arith, count c.args.file.now c.args.section c.args.place c.if-place-start.false)

pub returns-else-in_section-n : goal.returns-else-in_section-n
returns-else-in_section-n c =
    omega (arith, count c.args.file.now c.args.section c.args.place c.if-place-start.false)
