-- By the answer's case.
use mathlib.Core.Path.{◌∙◌}
use Rattle.refusal.proofs.Checks.{handed_on}
use Rattle.metric.specs.Levels.{metric_text}
use Rattle.metric.proofs.metric_text.Goals as goal

pub returns : goal.returns
unfolding metric_text
returns c = rw c.in_ok-answer.was

pub returns-in_err-answer : goal.returns-in_err-answer
unfolding metric_text
returns-in_err-answer c = handed_on c.from_residual.ensures.1 ∙ (rw c.in_err-answer.was)
