-- By whether there is a string.
use Rattle.refusal.specs.Check.{code_of}
use Rattle.refusal.proofs.Checks.{handed_on}
use Rattle.refusal.specs.Words.{code_in}
use Rattle.text.specs.String.{text_bytes}
use Rattle.text.proofs.bytes.Goals as goal

pub returns : goal.returns
unfolding text_bytes code_of code_in
returns c = record { bytes = rw c.in_ok-at.was c.part.ensures; code = rw c.in_ok-at.was }

pub returns-in_err-at : goal.returns-in_err-at
unfolding code_of code_in
returns-in_err-at c =
    record {
      bytes = rw (handed_on c.from_residual.ensures.1) tt;
      code = rw (handed_on c.from_residual.ensures.1, c.in_err-at.was);
    }
