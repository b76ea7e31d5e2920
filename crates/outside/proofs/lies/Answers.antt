-- The tests, put for their definitions.
use mathlib.Core.Bool.{and-true}
use Rattle.outside.specs.Outside.{lies, apart_all}
use Rattle.outside.proofs.lies.Goals as goal

pub returns : goal.returns
unfolding lies apart_all
returns c =
    rw (c.within.ensures, c.last_eight.ensures, c.is_apart.ensures, c.is_apart-2.ensures, and-true)
