-- By whether the element is there.
use mathlib.Core.Path.{◌∙◌}
use Rattle.refusal.specs.Check.{on_answer}
use Rattle.refusal.proofs.Checks.{handed_on}
use Rattle.lookup.specs.Lookup.{checked_at}
use Rattle.lookup.proofs.checked_at.Goals as goal

pub nth-requires : goal.nth-requires
nth-requires c = rw c.of_infos-infos.ensures c.requires.bounded

pub returns : goal.returns
unfolding checked_at on_answer
returns c = rw (c.checked_block.ensures, ← c.of_infos-infos.ensures, ← c.in_ok-at.ensures)

pub returns-in_err-at : goal.returns-in_err-at
unfolding checked_at on_answer
returns-in_err-at c = handed_on c.from_residual.ensures.1 ∙ (rw (← c.of_infos-infos.ensures, ← c.in_err-at.ensures))
