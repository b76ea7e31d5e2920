-- None is no longer than any.
use native.Mathlib.Omega.{arith}
use Rattle.mark_cases.proofs.changed.Goals as goal

pub returns-in-None-clause-bound : goal.returns-in-None-clause-bound
returns-in-None-clause-bound c = omega arith
