-- Two loads.
use Rattle.trace.specs.Trace.{sample_of, context_at}
use Rattle.trace.proofs.sample_of.Goals as goal

pub returns : goal.returns
unfolding sample_of context_at
returns c =
    rw (c.time_at-time.ensures, c.load_u32-context.ensures)
