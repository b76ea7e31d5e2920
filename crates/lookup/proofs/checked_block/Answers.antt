-- By its check.
use mathlib.Core.Path.{◌∙◌}
use Rattle.refusal.specs.Check.{on_answer}
use Rattle.refusal.proofs.Checks.{handed_on}
use Rattle.lookup.specs.Lookup.{checked_block}
use Rattle.lookup.proofs.checked_block.Goals as goal

pub returns : goal.returns
unfolding checked_block on_answer
returns c = rw (← c.block_at-b.ensures, ← c.in_ok-check.ensures)

pub returns-in_err-check : goal.returns-in_err-check
unfolding checked_block on_answer
returns-in_err-check c = handed_on c.from_residual.ensures.1 ∙ (rw (← c.block_at-b.ensures, ← c.in_err-check.ensures))
