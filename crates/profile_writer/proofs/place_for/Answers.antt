-- By whether the size is 0.
use mathlib.Core.Path.{sym}
use native.Mathlib.Omega.{arith}
use Rattle.open.specs.Opening.{place_for}
use Rattle.open.proofs.Pointers.{place_some}
use Rattle.profile_writer.proofs.place_for.Goals as goal

pub returns-then-size-eq0 : goal.returns-then-size-eq0
unfolding place_for
returns-then-size-eq0 c =
    rw c.if-size-eq0.true

pub returns-else-size-eq0 : goal.returns-else-size-eq0
returns-else-size-eq0 c =
    sym (place_some c.args.size c.args.pointer (omega (arith, c.if-size-eq0.false)))
