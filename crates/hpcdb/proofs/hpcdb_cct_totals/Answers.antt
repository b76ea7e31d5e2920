-- The answer, in words.
use Rattle.hpcdb.proofs.hpcdb_cct_totals.Goals as goal

pub returns : goal.returns
returns c =
    record { value = rw (← c.totals.ensures) c.put_found.ensures.value; out_after = rw (← c.totals.ensures) c.put_found.ensures.out_after }
