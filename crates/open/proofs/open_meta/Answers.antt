-- By the check over the pairs that were read.
use Rattle.open.specs.Format.{meta}
use Rattle.open.proofs.Answer.{passed, refused}
use Rattle.refusal.proofs.Checks.{handed_on}
use mathlib.Core.Path.{◌∙◌}
use Rattle.open.proofs.open_meta.Goals as goal

pub returns : goal.returns
returns c =
    passed meta _ c.meta_sections-sections.ensures c.check_meta.ensures c.in_ok-check_meta.was

pub returns-in_err-check_meta : goal.returns-in_err-check_meta
returns-in_err-check_meta c =
    handed_on c.from_residual.ensures.1 ∙ refused meta _ c.meta_sections-sections.ensures c.check_meta.ensures c.in_err-check_meta.was
