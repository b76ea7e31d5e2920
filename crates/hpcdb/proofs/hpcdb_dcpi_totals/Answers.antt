-- The answer, in words.
use Rattle.hpcdb.proofs.hpcdb_dcpi_totals.Goals as goal

pub returns : goal.returns
returns c =
    record { value = rw (← c.totals.ensures) c.put.ensures.value; out_after = rw (← c.totals.ensures) c.put.ensures.out_after }
