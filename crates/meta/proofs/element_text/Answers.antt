-- By whether the element is there.
use mathlib.Core.Path.{◌∙◌}
use Rattle.refusal.proofs.Checks.{handed_on}
use Rattle.refusal.specs.Check.{on_answer}
use Rattle.meta.specs.Names.{element_text}
use Rattle.meta.proofs.element_text.Goals as goal

pub returns : goal.returns
unfolding element_text on_answer
returns c =
    rw (c.string_of.ensures, ← c.nth.ensures, c.in_ok-place.was)

pub returns-in_err-place : goal.returns-in_err-place
unfolding element_text on_answer
returns-in_err-place c =
    handed_on c.from_residual.ensures.1 ∙ (rw (← c.nth.ensures, c.in_err-place.was))
