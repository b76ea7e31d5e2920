-- The name of the answer.
use Rattle.function.proofs.function_name.Goals as goal

pub returns : goal.returns
returns c =
    record {
      bytes = rw (← c.function_at.ensures) c.name_of.ensures.bytes;
      which = rw (← c.function_at.ensures) c.name_of.ensures.which;
    }
