-- By whether the section passes its check.
use mathlib.Core.Path.{sym, ◌∙◌}
use Rattle.refusal.specs.Check.{on_answer}
use Rattle.refusal.proofs.Checks.{handed_on}
use Rattle.dcpi.proofs.Rules.{passed_parts}
use Rattle.dcpi.specs.Answers.{sample_totals}
use Rattle.dcpi.proofs.totals.Goals as goal

pub stored_totals-requires : goal.stored_totals-requires
stored_totals-requires c = (passed_parts c.args.samples.now (sym c.in_ok-check.ensures)).0

pub returns : goal.returns
unfolding sample_totals on_answer
returns c = rw (← c.in_ok-check.ensures) c.stored_totals.ensures

pub returns-in_err-check : goal.returns-in_err-check
unfolding sample_totals on_answer
returns-in_err-check c = handed_on c.from_residual.ensures.1 ∙ (rw (← c.in_err-check.ensures))
