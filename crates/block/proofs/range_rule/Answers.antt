-- The tests, put for their definitions.
use Rattle.block.proofs.Parts.{small}
use Rattle.block.specs.Block.{range_rule}
use native.Mathlib.Omega.{arith}
use Rattle.block.proofs.range_rule.Goals as goal

pub overflow_add-value : goal.overflow_add-value
overflow_add-value c =
    omega (arith, small c.requires.1)

pub overflow_add-index : goal.overflow_add-index
overflow_add-index c =
    omega (arith, small c.requires.0)

pub returns : goal.returns
unfolding range_rule
returns c =
    rw (c.multiple.ensures, c.multiple-2.ensures, c.lies-values.ensures, c.lies-indices.ensures, c.ends_by-ordered.ensures)
