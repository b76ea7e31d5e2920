-- Every u32 is a float exactly, and so no NaN.
use Prim.Native.Nat.{◌^◌, ◌≤◌}
use mathlib.Core.Path.{refl}
use native.Mathlib.Omega.{arith}
use Rattle.float.specs.Float.{integer_bits}
use Rattle.float.proofs.Integers.{integer_some}
use Rattle.float.proofs.of_u32.Goals as goal

pub float_to_bits-result : goal.float_to_bits-result
float_to_bits-result c =
    let small : c.args.n ≤ 2 ^ 53 = omega (arith, c.row_known-1.given) in
    integer_some c.args.n small

pub returns : goal.returns
unfolding integer_bits
returns c =
    refl
