-- The answer, in words.
use Rattle.hpcdb.proofs.hpcdb_meta_id_name.Goals as goal

pub returns : goal.returns
returns c =
    record { value = rw (← c.kind_at.ensures) c.put.ensures.value; out_after = rw (← c.kind_at.ensures) c.put.ensures.out_after }
