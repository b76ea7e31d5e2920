-- By whether the file opens.
use Rattle.refusal.proofs.Checks.{handed_on}
use Rattle.std.specs.Prelude.{Err}
use Rattle.function.specs.Function.{function_at}
use Rattle.open.specs.Format.{meta}
use Rattle.open.proofs.Answer.{answers, refuses, sections}
use mathlib.Core.Path.{◌∙◌}
use Rattle.function.proofs.function_at.Goals as goal

pub function_in-requires : goal.function_in-requires
function_in-requires c =
    sections c.in_ok-sections.ensures

pub returns : goal.returns
unfolding function_at
returns c =
    c.function_in.ensures ∙ answers meta _ Err _ c.in_ok-sections.ensures

pub returns-in_err-sections : goal.returns-in_err-sections
unfolding function_at
returns-in_err-sections c =
    handed_on c.from_residual.ensures.1 ∙ refuses meta _ Err _ c.in_err-sections.ensures
