-- Measured from the section's place; before it nothing lies in the section.
use native.Mathlib.Omega.{arith}
use mathlib.Core.Path.{◌∙◌}
use Prim.Native.Nat.{◌+◌, ◌<◌}
use borrow.Author.Tests.{lt-leb}
use Rattle.range.proofs.Laws.{shifted}
use Rattle.range.proofs.in_section.Goals as goal

pub returns-then-place-at : goal.returns-then-place-at
returns-then-place-at c =
    let h : c.args.place < c.args.at + c.args.head = omega arith in
    rw (lt-leb _ _ h)

pub returns : goal.returns
returns c =
    c.within.ensures ∙ shifted _ _ _ _ _ c.if-place-at.false
