-- By whether the section passes its check.
use mathlib.Core.Path.{sym, ◌∙◌}
use Rattle.refusal.specs.Check.{on_answer}
use Rattle.refusal.proofs.Checks.{handed_on}
use Rattle.dcpi.specs.Answers.{sample_lookup}
use Rattle.dcpi.proofs.lookup.Goals as goal

pub find-requires : goal.find-requires
find-requires c = sym c.in_ok-check.ensures

pub returns : goal.returns
unfolding sample_lookup on_answer
returns c = rw (← c.in_ok-check.ensures, c.find.ensures)

pub returns-in_err-check : goal.returns-in_err-check
unfolding sample_lookup on_answer
returns-in_err-check c = handed_on c.from_residual.ensures.1 ∙ (rw (← c.in_err-check.ensures))
