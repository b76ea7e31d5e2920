-- By the check over the pairs that were read.
use Rattle.open.specs.Format.{cct}
use Rattle.open.proofs.Answer.{passed, refused}
use Rattle.refusal.proofs.Checks.{handed_on}
use mathlib.Core.Path.{◌∙◌}
use Rattle.open.proofs.open_cct.Goals as goal

pub returns : goal.returns
returns c =
    passed cct _ c.single_section-sections.ensures.value c.check_cct.ensures c.in_ok-check_cct.was

pub returns-in_err-check_cct : goal.returns-in_err-check_cct
returns-in_err-check_cct c =
    handed_on c.from_residual.ensures.1 ∙ refused cct _ c.single_section-sections.ensures.value c.check_cct.ensures c.in_err-check_cct.was
