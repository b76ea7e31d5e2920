-- By the check over the pairs that were read.
use Rattle.open.specs.Format.{profile}
use Rattle.open.proofs.Answer.{passed, refused}
use Rattle.refusal.proofs.Checks.{handed_on}
use mathlib.Core.Path.{◌∙◌}
use Rattle.open.proofs.open_profile.Goals as goal

pub returns : goal.returns
returns c =
    passed profile _ c.profile_sections-sections.ensures c.check_profile.ensures c.in_ok-check_profile.was

pub returns-in_err-check_profile : goal.returns-in_err-check_profile
returns-in_err-check_profile c =
    handed_on c.from_residual.ensures.1 ∙ refused profile _ c.profile_sections-sections.ensures c.check_profile.ensures c.in_err-check_profile.was
