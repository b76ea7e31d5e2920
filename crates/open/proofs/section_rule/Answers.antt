-- The tests, put for their definitions.
use Rattle.open.specs.Opening.{section_rule}
use native.Mathlib.Nat.{mul-one}
use Rattle.open.proofs.section_rule.Goals as goal

pub returns : goal.returns
unfolding section_rule
returns c =
    rw (c.multiple.ensures, c.within.ensures, c.last_eight.ensures, mul-one)
