-- The field of the array.
use Rattle.array.specs.Stored.{array_of}
use Rattle.open.specs.Opening.{field}
use Rattle.count.proofs.elements.Goals as goal

pub returns : goal.returns
unfolding array_of field
returns c =
    c.load_u32.ensures
