-- By the two cases.
use Rattle.refusal.specs.Check.{code_of}
use Rattle.refusal.proofs.code.Goals as goal

pub returns-in-Ok : goal.returns-in-Ok
unfolding code_of
returns-in-Ok g c =
    rw c.in-Ok.is

pub returns-in-Err : goal.returns-in-Err
unfolding code_of
returns-in-Err g c =
    rw (c.in-Err.is, c.from.ensures)
