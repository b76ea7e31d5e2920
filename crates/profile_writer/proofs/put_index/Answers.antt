use Rattle.put.proofs.Fields.{over_field, over_last}
use Rattle.profile_writer.proofs.put_index.Goals as goal

pub returns : goal.returns
returns c =
    rw (c.store_u64.ensures, c.store_u32.ensures, over_field, over_last)
