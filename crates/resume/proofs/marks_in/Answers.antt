-- By the three answers of a walk.
use mathlib.Core.Path.{sym, ap}
use Rattle.resume.specs.State.{marks_in}
use Rattle.resume.proofs.marks_in.Goals as goal

pub returns-in-Refused : goal.returns-in-Refused
returns-in-Refused c =
    ap marks_in (sym c.in-Refused.is)
