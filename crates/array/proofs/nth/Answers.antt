-- An element that is there ends where the array does at the latest, so its place is a u64.
use Rattle.array.proofs.Bounds.{place_fits, is_there, not_there}
use native.Mathlib.Omega.{arith}
use Rattle.array.proofs.nth.Goals as goal

pub overflow_mul-result : goal.overflow_mul-result
overflow_mul-result c =
    omega (arith, place_fits c.args.a c.args.i c.requires c.if-i-a.true)

pub overflow_add-result : goal.overflow_add-result
overflow_add-result c =
    omega (arith, place_fits c.args.a c.args.i c.requires c.if-i-a.true)

pub returns-then-i-a : goal.returns-then-i-a
returns-then-i-a c =
    is_there _ _ c.if-i-a.true

pub returns-else-i-a : goal.returns-else-i-a
returns-else-i-a c =
    not_there _ _ c.if-i-a.false
