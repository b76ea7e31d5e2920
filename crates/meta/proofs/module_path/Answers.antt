-- The bytes of the answer.
use Rattle.meta.proofs.module_path.Goals as goal

pub returns : goal.returns
returns c =
    record {
      bytes = rw (← c.module_at.ensures) c.bytes.ensures.bytes;
      code = rw (← c.module_at.ensures) c.bytes.ensures.code;
    }
