-- The two tests, as `ends_by` gives the second.
use Rattle.range.proofs.within.Goals as goal

pub returns : goal.returns
returns c =
    rw c.ends_by.ensures
