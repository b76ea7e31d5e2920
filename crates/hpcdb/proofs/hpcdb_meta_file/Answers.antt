-- The answer, in words.
use Rattle.hpcdb.proofs.hpcdb_meta_file.Goals as goal

pub returns : goal.returns
returns c =
    record { value = rw (← c.source_file.ensures) c.put.ensures.value; out_after = rw (← c.source_file.ensures) c.put.ensures.out_after }
