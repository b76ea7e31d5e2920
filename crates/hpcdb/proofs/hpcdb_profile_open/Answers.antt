-- The answer, in words.
use Rattle.hpcdb.proofs.hpcdb_profile_open.Goals as goal

pub returns : goal.returns
returns c =
    record { value = rw (← c.profiles.ensures) c.put.ensures.value; out_after = rw (← c.profiles.ensures) c.put.ensures.out_after }
