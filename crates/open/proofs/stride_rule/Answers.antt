-- The tests, put for their definitions.
use Rattle.open.specs.Opening.{stride_rule}
use Rattle.open.proofs.stride_rule.Goals as goal

pub returns : goal.returns
unfolding stride_rule
returns c =
    rw c.multiple.ensures
