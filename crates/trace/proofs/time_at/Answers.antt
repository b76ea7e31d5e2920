-- One load.
use Rattle.trace.specs.Trace.{time_at}
use Rattle.trace.proofs.time_at.Goals as goal

pub returns : goal.returns
unfolding time_at
returns c =
    c.load_u64.ensures
