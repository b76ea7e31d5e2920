-- The byte that is read is the field.
use Rattle.open.specs.Opening.{field}
use Rattle.context.specs.Context.{extent}
use Rattle.context.proofs.extent.Goals as goal

pub returns : goal.returns
unfolding extent field
returns c =
    rw c.load_u8.ensures
