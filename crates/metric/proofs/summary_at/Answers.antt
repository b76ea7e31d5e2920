-- By whether the file opens, and whether the scope and its summaries are there.
use mathlib.Core.Path.{◌∙◌}
use Rattle.refusal.specs.Check.{on_answer}
use Rattle.refusal.proofs.Checks.{handed_on}
use Rattle.metric.specs.Levels.{summary_at, summary_of, summary_in}
use Rattle.open.specs.Format.{meta}
use Rattle.open.proofs.Answer.{answered, refuses, sections}
use Rattle.metric.proofs.summary_at.Goals as goal

pub scope_nested-requires : goal.scope_nested-requires
scope_nested-requires c = sections c.in_ok-sections.ensures

pub nth-requires : goal.nth-requires
nth-requires c = c.in_ok-scope.ensures.bounded_in

pub returns : goal.returns
unfolding summary_at summary_of summary_in on_answer
returns c =
    answered meta _ _ _ c.in_ok-sections.ensures (rw (← c.in_ok-scope.ensures.value, ← c.in_ok-place.ensures, c.summary_found.ensures))

pub returns-in_err-sections : goal.returns-in_err-sections
unfolding summary_at
returns-in_err-sections c =
    handed_on c.from_residual.ensures.1 ∙ refuses meta _ _ _ c.in_err-sections.ensures

pub returns-in_err-scope : goal.returns-in_err-scope
unfolding summary_at summary_of on_answer
returns-in_err-scope c =
    handed_on c.from_residual-in_err-scope.ensures.1 ∙ answered meta _ _ _ c.in_ok-sections.ensures (rw (← c.in_err-scope.ensures.value))

pub returns-in_err-place : goal.returns-in_err-place
unfolding summary_at summary_of summary_in on_answer
returns-in_err-place c =
    handed_on c.from_residual-in_err-place.ensures.1
    ∙ answered meta _ _ _ c.in_ok-sections.ensures (rw (← c.in_ok-scope.ensures.value, ← c.in_err-place.ensures))
