-- The path of the answer.
use Rattle.meta.proofs.source_path.Goals as goal

pub returns : goal.returns
returns c =
    record {
      bytes = rw (← c.source_file.ensures, ← c.source_text.ensures) c.bytes.ensures.bytes;
      code = rw (← c.source_file.ensures, ← c.source_text.ensures) c.bytes.ensures.code;
    }
