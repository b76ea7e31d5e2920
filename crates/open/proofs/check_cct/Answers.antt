-- 5 to 7 after the front.
use Rattle.open.specs.Opening.{opening_with}
use Rattle.refusal.proofs.Checks.{after_passed, after_refused, handed_on}
use mathlib.Core.Path.{sym, ◌∙◌}
use Rattle.open.proofs.check_cct.Goals as goal

pub returns : goal.returns
unfolding opening_with
returns c =
    after_passed (sym c.front.ensures ∙ c.in_ok-front.was) c.single_rules.ensures

pub returns-in_err-front : goal.returns-in_err-front
unfolding opening_with
returns-in_err-front c =
    handed_on c.from_residual.ensures.1 ∙ after_refused _ (sym c.front.ensures ∙ c.in_err-front.was)
