-- The answer, in words.
use Rattle.hpcdb.proofs.hpcdb_meta_function.Goals as goal

pub returns : goal.returns
returns c =
    record { value = rw (← c.function_at.ensures) c.put.ensures.value; out_after = rw (← c.function_at.ensures) c.put.ensures.out_after }
