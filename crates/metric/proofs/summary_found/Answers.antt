-- By whether the formula is there.
use mathlib.Core.Path.{◌∙◌}
use Rattle.refusal.proofs.Checks.{handed_on}
use Rattle.refusal.specs.Check.{on_answer}
use Rattle.metric.specs.Levels.{summary_found}
use Rattle.metric.proofs.summary_found.Goals as goal

pub returns : goal.returns
unfolding summary_found on_answer
returns c =
    rw (← c.string_of.ensures, c.in_ok-formula.was, c.u16_at-stat_metric_id.ensures, c.u8_at-combine.ensures)

pub returns-in_err-formula : goal.returns-in_err-formula
unfolding summary_found on_answer
returns-in_err-formula c =
    handed_on c.from_residual.ensures.1 ∙ (rw (← c.string_of.ensures, c.in_err-formula.was))
