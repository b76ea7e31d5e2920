use Rattle.put.proofs.Fields.{over_field, over_last}
use Rattle.profile_writer.proofs.put_value.Goals as goal

pub returns : goal.returns
returns c =
    rw (c.store_u64.ensures, c.store_u16.ensures, over_field, over_last)
