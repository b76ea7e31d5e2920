-- The answer, in words.
use Rattle.hpcdb.proofs.hpcdb_trace_at.Goals as goal

pub returns : goal.returns
returns c =
    record { value = rw (← c.last_at.ensures) c.put_found.ensures.value; out_after = rw (← c.last_at.ensures) c.put_found.ensures.out_after }
