-- By the number of indices, then by the ranges.
use Rattle.block.proofs.Ranges.{none_check, range_check, arrays_inside, order_check}
use mathlib.Core.Path.{sym, ◌∙◌}
use native.Mathlib.Omega.{arith}
use Rattle.block.proofs.check.Goals as goal

pub returns-then-b-eq0 : goal.returns-then-b-eq0
returns-then-b-eq0 c =
    c.rule.ensures ∙ none_check c.args.file.now c.args.h _ c.args.b c.if-b-eq0.true

pub returns-then-not-range_rule : goal.returns-then-not-range_rule
returns-then-not-range_rule c =
    range_check c.args.file.now c.args.h _ c.args.b c.if-b-eq0.false (sym c.range_rule.ensures ∙ c.if-not-range_rule.true)

pub order_rule-requires : goal.order_rule-requires
order_rule-requires c =
    arrays_inside c.args.file.now c.args.h _ c.args.b (sym c.range_rule.ensures ∙ c.if-not-range_rule.false) c.requires
    (omega (arith, c.if-b-eq0.false))

pub returns : goal.returns
returns c =
    c.rule-2.ensures ∙
    (rw (← c.order_rule.ensures) at
    (order_check c.args.file.now c.args.h _ c.args.b c.if-b-eq0.false (sym c.range_rule.ensures ∙ c.if-not-range_rule.false)))
