-- Only the last test can say so.
use mathlib.Core.Bool.{true≢false}
use mathlib.Core.Path.{sym, ◌∙◌}
use native.Mathlib.Omega.{arith}
use borrow.Author.Tests.{eqb-true}
use Rattle.block.proofs.is_at.Goals as goal

pub returns-then-n-hint : goal.returns-then-n-hint
returns-then-n-hint c e =
    absurd (true≢false (sym e))

pub returns : goal.returns
returns c e =
    (omega (arith, c.if-n-hint.false), sym c.id_at.ensures.value ∙ eqb-true c.id_at.result c.args.key e)
