-- The bytes of the answer.
use Rattle.metric.proofs.metric_name.Goals as goal

pub returns : goal.returns
returns c =
    record {
      bytes = rw (← c.metric_at.ensures, ← c.metric_text.ensures) c.bytes.ensures.bytes;
      code = rw (← c.metric_at.ensures, ← c.metric_text.ensures) c.bytes.ensures.code;
    }
