-- By the answer's case.
use mathlib.Core.Path.{◌∙◌}
use Rattle.refusal.proofs.Checks.{handed_on}
use Rattle.metric.specs.Levels.{scope_text}
use Rattle.metric.proofs.scope_text.Goals as goal

pub returns : goal.returns
unfolding scope_text
returns c = rw c.in_ok-answer.was

pub returns-in_err-answer : goal.returns-in_err-answer
unfolding scope_text
returns-in_err-answer c = handed_on c.from_residual.ensures.1 ∙ (rw c.in_err-answer.was)
