-- The answer, in words.
use Rattle.hpcdb.proofs.hpcdb_trace_line.Goals as goal

pub returns : goal.returns
returns c =
    record { value = rw (← c.line_at.ensures) c.put.ensures.value; out_after = rw (← c.line_at.ensures) c.put.ensures.out_after }
