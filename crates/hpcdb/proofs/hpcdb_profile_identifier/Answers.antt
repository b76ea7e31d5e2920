-- The answer, in words.
use Rattle.hpcdb.proofs.hpcdb_profile_identifier.Goals as goal

pub returns : goal.returns
returns c =
    record { value = rw (← c.identifier_at.ensures) c.put.ensures.value; out_after = rw (← c.identifier_at.ensures) c.put.ensures.out_after }
