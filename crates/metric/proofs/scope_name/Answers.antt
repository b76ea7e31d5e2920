-- The bytes of the answer.
use Rattle.metric.proofs.scope_name.Goals as goal

pub returns : goal.returns
returns c =
    record {
      bytes = rw (← c.scope_at.ensures, ← c.scope_text.ensures) c.bytes.ensures.bytes;
      code = rw (← c.scope_at.ensures, ← c.scope_text.ensures) c.bytes.ensures.code;
    }
