-- The bytes of the answer.
use Rattle.meta.proofs.title.Goals as goal

pub returns : goal.returns
returns c =
    record {
      bytes = rw (← c.title_at.ensures) c.bytes.ensures.bytes;
      code = rw (← c.title_at.ensures) c.bytes.ensures.code;
    }
