-- The answer, in words.
use Rattle.hpcdb.proofs.hpcdb_profile_tuple.Goals as goal

pub returns : goal.returns
returns c =
    record { value = rw (← c.tuple_at.ensures) c.put.ensures.value; out_after = rw (← c.tuple_at.ensures) c.put.ensures.out_after }
