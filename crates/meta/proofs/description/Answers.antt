-- The bytes of the answer.
use Rattle.meta.proofs.description.Goals as goal

pub returns : goal.returns
returns c =
    record {
      bytes = rw (← c.description_at.ensures) c.bytes.ensures.bytes;
      code = rw (← c.description_at.ensures) c.bytes.ensures.code;
    }
