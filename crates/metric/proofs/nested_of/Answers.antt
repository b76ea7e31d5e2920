-- By the array's rule.
use Rattle.metric.specs.Levels.{nested_of}
use Rattle.refusal.specs.Check.{either}
use Rattle.metric.proofs.nested_of.Goals as goal

pub returns-then-array_rule : goal.returns-then-array_rule
unfolding nested_of either
returns-then-array_rule c =
    rw (← c.u64_at-place.ensures, ← c.u16_at-count.ensures, ← c.array_rule.ensures, c.if-array_rule.true)

pub returns-else-array_rule : goal.returns-else-array_rule
unfolding nested_of either
returns-else-array_rule c =
    rw (← c.u64_at-place.ensures, ← c.u16_at-count.ensures, ← c.array_rule.ensures, c.if-array_rule.false)
