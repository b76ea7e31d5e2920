-- 4 after the rest.
use Rattle.open.proofs.Stages.{shown_long, front_passed, front_refused}
use Rattle.refusal.proofs.Checks.{handed_on}
use mathlib.Core.Path.{sym, ◌∙◌}
use native.Mathlib.Omega.{arith}
use Rattle.open.proofs.front.Goals as goal

pub foot-requires : goal.foot-requires
foot-requires c =
    let l = shown_long _ _ _ (sym c.head.ensures ∙ c.in_ok-head.was) in omega arith

pub returns : goal.returns
returns c =
    front_passed _ _ _ _ (sym c.head.ensures ∙ c.in_ok-head.was) c.foot.ensures

pub returns-in_err-head : goal.returns-in_err-head
returns-in_err-head c =
    handed_on c.from_residual.ensures.1 ∙ front_refused _ _ _ _ (sym c.head.ensures ∙ c.in_err-head.was)
