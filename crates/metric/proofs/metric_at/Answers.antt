-- By whether the file opens, and whether its own array is kept.
use mathlib.Core.Path.{◌∙◌}
use Rattle.refusal.specs.Check.{on_answer}
use Rattle.refusal.proofs.Checks.{handed_on}
use Rattle.metric.specs.Levels.{metric_at, metric_of}
use Rattle.open.specs.Format.{meta}
use Rattle.open.proofs.Answer.{answered, refuses, sections}
use Rattle.metric.proofs.metric_at.Goals as goal

pub metric_nested-requires : goal.metric_nested-requires
metric_nested-requires c = sections c.in_ok-sections.ensures

pub returns : goal.returns
unfolding metric_at metric_of on_answer
returns c =
    answered meta _ _ _ c.in_ok-sections.ensures (rw (← c.in_ok-metric.ensures.value, c.metric_found.ensures))

pub returns-in_err-sections : goal.returns-in_err-sections
unfolding metric_at
returns-in_err-sections c =
    handed_on c.from_residual.ensures.1 ∙ refuses meta _ _ _ c.in_err-sections.ensures

pub returns-in_err-metric : goal.returns-in_err-metric
unfolding metric_at metric_of on_answer
returns-in_err-metric c =
    handed_on c.from_residual-in_err-metric.ensures.1 ∙ answered meta _ _ _ c.in_ok-sections.ensures (rw (← c.in_err-metric.ensures.value))
