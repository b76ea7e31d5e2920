-- By whether it is there.
use mathlib.Core.Path.{◌∙◌}
use Rattle.refusal.proofs.Checks.{handed_on}
use Rattle.refusal.specs.Check.{on_answer}
use Rattle.tuple.specs.Tuple.{identifier_in}
use Rattle.tuple.proofs.identifier_in.Goals as goal

pub returns : goal.returns
unfolding identifier_in on_answer
returns c =
    rw (c.identifier_of.ensures, ← c.nth.ensures, c.in_ok-at.was)

pub returns-in_err-at : goal.returns-in_err-at
unfolding identifier_in on_answer
returns-in_err-at c =
    handed_on c.from_residual.ensures.1 ∙ (rw (← c.nth.ensures, c.in_err-at.was))
