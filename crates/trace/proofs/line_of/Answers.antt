-- By the range, then by the order.
use Rattle.trace.proofs.Lines.{rule_forwards, rule_ends, range_broken, order_broken, rules_kept}
use mathlib.Core.Path.{sym, ◌∙◌}
use native.Mathlib.Omega.{arith}
use Rattle.trace.proofs.line_of.Goals as goal

pub returns-then-not-line_rule : goal.returns-then-not-line_rule
returns-then-not-line_rule c =
    range_broken c.args.file.now _ c.args.start c.args.end (sym c.line_rule.ensures ∙ c.if-not-line_rule.true) c.args.profile

pub overflow_sub-samples : goal.overflow_sub-samples
overflow_sub-samples c =
    omega (arith, rule_forwards c.args.file.now _ c.args.start c.args.end (sym c.line_rule.ensures ∙ c.if-not-line_rule.false))

pub times_rise-requires : goal.times_rise-requires
times_rise-requires c =
    rule_ends c.args.file.now _ c.args.start c.args.end (sym c.line_rule.ensures ∙ c.if-not-line_rule.false)

pub returns-then-not-times_rise : goal.returns-then-not-times_rise
returns-then-not-times_rise c =
    order_broken c.args.file.now _ c.args.start c.args.end (sym c.line_rule.ensures ∙ c.if-not-line_rule.false) c.args.profile
    (sym c.times_rise.ensures ∙ c.if-not-times_rise.true)

pub returns : goal.returns
returns c =
    rules_kept c.args.file.now _ c.args.start c.args.end (sym c.line_rule.ensures ∙ c.if-not-line_rule.false) c.args.profile
    (sym c.times_rise.ensures ∙ c.if-not-times_rise.false)
