-- By whether there is a name.
use Rattle.function.specs.Function.{name_text}
use Rattle.refusal.specs.Check.{either}
use Rattle.meta.specs.Names.{string_of}
use borrow.Author.Tests.{eq-eqb, ne_eqb}
use Rattle.function.proofs.name_text.Goals as goal

pub returns-then-u64_at-eq0 : goal.returns-then-u64_at-eq0
unfolding name_text either
returns-then-u64_at-eq0 c =
    rw (← c.u64_at.ensures, eq-eqb _ 0 c.if-u64_at-eq0.true)

pub returns : goal.returns
unfolding name_text either string_of
returns c =
    rw (c.string_of.ensures, ← c.u64_at.ensures, ne_eqb _ 0 c.if-u64_at-eq0.false)
