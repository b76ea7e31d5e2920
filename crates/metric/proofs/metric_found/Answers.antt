-- By whether the name is there.
use mathlib.Core.Path.{◌∙◌}
use Rattle.refusal.proofs.Checks.{handed_on}
use Rattle.refusal.specs.Check.{on_answer}
use Rattle.metric.specs.Levels.{metric_found}
use Rattle.metric.proofs.metric_found.Goals as goal

pub returns : goal.returns
unfolding metric_found on_answer
returns c =
    rw (← c.string_of.ensures, c.in_ok-name.was)

pub returns-in_err-name : goal.returns-in_err-name
unfolding metric_found on_answer
returns-in_err-name c =
    handed_on c.from_residual.ensures.1 ∙ (rw (← c.string_of.ensures, c.in_err-name.was))
