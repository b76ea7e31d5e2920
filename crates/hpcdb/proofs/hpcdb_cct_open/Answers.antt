-- The answer, in words.
use Rattle.hpcdb.proofs.hpcdb_cct_open.Goals as goal

pub returns : goal.returns
returns c =
    record { value = rw (← c.contexts.ensures) c.put.ensures.value; out_after = rw (← c.contexts.ensures) c.put.ensures.out_after }
