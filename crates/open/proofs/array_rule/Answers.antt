-- The tests, put for their definitions.
use Rattle.open.specs.Opening.{array_rule}
use Rattle.open.proofs.array_rule.Goals as goal

pub returns : goal.returns
unfolding array_rule
returns c =
    rw (c.multiple.ensures, c.in_section.ensures)
