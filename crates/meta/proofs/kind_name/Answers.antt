-- The bytes of the answer.
use Rattle.meta.proofs.kind_name.Goals as goal

pub returns : goal.returns
returns c =
    record {
      bytes = rw (← c.kind_at.ensures) c.bytes.ensures.bytes;
      code = rw (← c.kind_at.ensures) c.bytes.ensures.code;
    }
