-- By whether the file opens.
use Rattle.refusal.proofs.Checks.{handed_on}
use Rattle.std.specs.Prelude.{Err}
use mathlib.Core.Path.{◌∙◌}
use Rattle.open.specs.Format.{meta}
use Rattle.open.proofs.Answer.{answers, refuses}
use Rattle.meta.specs.Names.{general_text}
use Rattle.meta.proofs.general_text.Goals as goal

pub returns : goal.returns
unfolding general_text
returns c =
    c.string_of.ensures ∙ answers meta _ Err _ c.in_ok-sections.ensures

pub returns-in_err-sections : goal.returns-in_err-sections
unfolding general_text
returns-in_err-sections c =
    handed_on c.from_residual.ensures.1 ∙ refuses meta _ Err _ c.in_err-sections.ensures
