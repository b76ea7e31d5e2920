-- Eight bytes for each field before it, of which there are at most five.
use Prim.Native.Nat.{◌*◌}
use mathlib.Core.Path.{ap}
use native.Mathlib.Omega.{arith}
use Rattle.flex.specs.Packing.{place}
use Rattle.flex.proofs.Count.{before_at_most_5}
use Rattle.flex.proofs.place.Goals as goal

pub overflow_mul-result : goal.overflow_mul-result
overflow_mul-result c =
    omega (arith, c.before-2.ensures, before_at_most_5 c.args.flags c.args.field)

pub returns : goal.returns
unfolding place
returns c =
    ap (λ n. 8 * n) c.before-2.ensures
