-- The two checks, put for their definitions.
use Rattle.open.proofs.strides_then_array.Goals as goal

pub returns : goal.returns
returns c =
    rw (c.and.ensures, c.rule-range.ensures, c.rule-stride.ensures)
