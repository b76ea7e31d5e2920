-- By the answer's case.
use mathlib.Core.Path.{◌∙◌}
use Rattle.refusal.proofs.Checks.{handed_on}
use Rattle.metric.specs.Levels.{summary_text}
use Rattle.metric.proofs.summary_text.Goals as goal

pub returns : goal.returns
unfolding summary_text
returns c = rw c.in_ok-answer.was

pub returns-in_err-answer : goal.returns-in_err-answer
unfolding summary_text
returns-in_err-answer c = handed_on c.from_residual.ensures.1 ∙ (rw c.in_err-answer.was)
