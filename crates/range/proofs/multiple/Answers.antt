-- The remainder by 0 is the number itself.
use native.Mathlib.Nat.{mod-zero}
use Rattle.range.proofs.multiple.Goals as goal

pub returns-then-step-eq0 : goal.returns-then-step-eq0
returns-then-step-eq0 c =
    rw (c.if-step-eq0.true, mod-zero)
