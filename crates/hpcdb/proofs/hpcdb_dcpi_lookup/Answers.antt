-- The answer, in words.
use Rattle.hpcdb.proofs.hpcdb_dcpi_lookup.Goals as goal

pub returns : goal.returns
returns c =
    record { value = rw (← c.lookup.ensures) c.put_found.ensures.value; out_after = rw (← c.lookup.ensures) c.put_found.ensures.out_after }
