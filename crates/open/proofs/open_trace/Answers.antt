-- By the check over the pairs that were read.
use Rattle.open.specs.Format.{trace}
use Rattle.open.proofs.Answer.{passed, refused}
use Rattle.refusal.proofs.Checks.{handed_on}
use mathlib.Core.Path.{◌∙◌}
use Rattle.open.proofs.open_trace.Goals as goal

pub returns : goal.returns
returns c =
    passed trace _ c.single_section-sections.ensures.value_2 c.check_trace.ensures c.in_ok-check_trace.was

pub returns-in_err-check_trace : goal.returns-in_err-check_trace
returns-in_err-check_trace c =
    handed_on c.from_residual.ensures.1 ∙ refused trace _ c.single_section-sections.ensures.value_2 c.check_trace.ensures c.in_err-check_trace.was
