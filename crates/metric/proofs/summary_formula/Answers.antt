-- The bytes of the answer.
use Rattle.metric.proofs.summary_formula.Goals as goal

pub returns : goal.returns
returns c =
    record {
      bytes = rw (← c.summary_at.ensures, ← c.summary_text.ensures) c.bytes.ensures.bytes;
      code = rw (← c.summary_at.ensures, ← c.summary_text.ensures) c.bytes.ensures.code;
    }
