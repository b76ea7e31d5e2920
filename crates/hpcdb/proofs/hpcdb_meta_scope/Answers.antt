-- The answer, in words.
use Rattle.hpcdb.proofs.hpcdb_meta_scope.Goals as goal

pub returns : goal.returns
returns c =
    record { value = rw (← c.scope_at.ensures) c.put.ensures.value; out_after = rw (← c.scope_at.ensures) c.put.ensures.out_after }
