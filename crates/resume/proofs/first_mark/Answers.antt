-- By whether the mark has depth 0.
use borrow.Author.Tests.{eq-eqb, ne_eqb}
use Rattle.refusal.specs.Check.{either}
use Rattle.resume.proofs.first_mark.Goals as goal

pub returns-then-marked-eq0 : goal.returns-then-marked-eq0
unfolding either
returns-then-marked-eq0 c =
    rw (eq-eqb _ _ c.if-marked-eq0.true)

pub returns-else-marked-eq0 : goal.returns-else-marked-eq0
unfolding either
returns-else-marked-eq0 c =
    rw (ne_eqb _ _ c.if-marked-eq0.false)
