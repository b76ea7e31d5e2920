-- By the answer, and by whether there is a name.
use mathlib.Core.Path.{refl}
use borrow.Author.Tests.{eq-eqb, ne_eqb}
use Rattle.refusal.specs.Check.{either}
use Rattle.refusal.proofs.Checks.{handed_on}
use Rattle.function.specs.Function.{name_bytes, name_which}
use Rattle.function.proofs.name_of.Goals as goal

pub returns-then-name-eq0 : goal.returns-then-name-eq0
unfolding name_bytes name_which either
returns-then-name-eq0 c = rw (c.in_ok-name.was, eq-eqb _ 0 c.if-name-eq0.true) record { bytes = refl; which = refl }

pub returns : goal.returns
unfolding name_bytes name_which either
returns c = rw (c.in_ok-name.was, ne_eqb _ 0 c.if-name-eq0.false) record { bytes = c.part.ensures; which = refl }

pub returns-in_err-name : goal.returns-in_err-name
unfolding name_bytes name_which
returns-in_err-name c =
    record {
      bytes = rw (handed_on c.from_residual.ensures.1) tt;
      which = rw (handed_on c.from_residual.ensures.1, c.in_err-name.was);
    }
