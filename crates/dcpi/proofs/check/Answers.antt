-- 1, then what the pass says, then 20.
use mathlib.Core.Path.{◌∙◌}
use Rattle.refusal.proofs.Checks.{handed_on}
use Rattle.dcpi.proofs.Rules.{check_1, check_20, check_chunks}
use Rattle.dcpi.proofs.check.Goals as goal

pub returns-then-samples-lt8 : goal.returns-then-samples-lt8
returns-then-samples-lt8 c =
    check_1 c.args.samples.now c.if-samples-lt8.true

pub returns : goal.returns
returns c =
    c.rule.ensures ∙ check_20 c.args.samples.now c.if-samples-lt8.false c.in_ok-seen.ensures.0 c.load_u32-nonzero.ensures
    c.load_u32-sum.ensures c.in_ok-seen.ensures.1 c.in_ok-seen.ensures.2

pub returns-in_err-seen : goal.returns-in_err-seen
returns-in_err-seen c =
    handed_on c.from_residual.ensures.1 ∙ check_chunks c.args.samples.now c.if-samples-lt8.false c.in_err-seen.ensures
