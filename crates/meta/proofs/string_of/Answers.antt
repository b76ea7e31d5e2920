-- The pointer, then the string there.
use Rattle.meta.specs.Names.{string_of}
use Rattle.meta.proofs.string_of.Goals as goal

pub returns : goal.returns
unfolding string_of
returns c =
    rw (c.find.ensures, c.u64_at.ensures)
