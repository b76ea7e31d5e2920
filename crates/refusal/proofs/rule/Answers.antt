-- By the test.
use Rattle.refusal.specs.Check.{rule}
use Rattle.refusal.proofs.rule.Goals as goal

pub returns-then-holds : goal.returns-then-holds
unfolding rule
returns-then-holds c =
    rw c.if-holds.true

pub returns-else-holds : goal.returns-else-holds
unfolding rule
returns-else-holds c =
    rw c.if-holds.false
