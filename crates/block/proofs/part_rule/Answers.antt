-- By its start and its end.
use Rattle.block.proofs.Parts.{part_empty, part_long, part_is}
use mathlib.Core.Path.{◌∙◌}
use native.Mathlib.Omega.{arith}
use Rattle.block.proofs.part_rule.Goals as goal

pub returns-then-end-start : goal.returns-then-end-start
returns-then-end-start c = λ h i w l s e. part_empty c.args.file.now h c.args.b i c.args.start c.args.end s e c.if-end-start.true

pub returns-then-b-end : goal.returns-then-b-end
returns-then-b-end c = λ h i w l s e.
    part_long c.args.file.now h c.args.b i c.args.start c.args.end s e (omega (arith, c.if-end-start.false)) c.if-b-end.true

pub returns : goal.returns
returns c = λ h i w l s e.
    (rw (← w, ← l) at c.ids_rise.ensures)
    ∙ part_is c.args.file.now h c.args.b i c.args.start c.args.end s e c.element-at.result
    (rw w c.element-at.ensures.value)
    (omega (arith, c.if-end-start.false))
    (omega (arith, c.if-b-end.false))
