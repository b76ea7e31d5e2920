-- A product that cannot wrap, and else a quotient for the product that can.
use Rattle.range.proofs.Laws.{by_product, by_quotient, small_product, yes_le, no_le}
use Rattle.range.proofs.Tests.{both}
use borrow.Author.Tests.{ltb-true}
use lib.Dec.{ltb}
use Prim.Native.Nat.{◌+◌, ◌*◌}
use native.Mathlib.Nat.{mul-zero}
use native.Mathlib.Omega.{arith}
use Rattle.range.proofs.ends_by.Goals as goal

pub returns-then-to-place : goal.returns-then-to-place
returns-then-to-place c =
    no_le (c.args.place + c.args.count * c.args.stride) c.args.to (omega arith)

pub overflow_mul-result : goal.overflow_mul-result
overflow_mul-result c =
    let small = (both (ltb c.args.count 4294967296) (ltb c.args.stride 4294967296)).0 c.if-count-stride.true in
    omega (arith, small_product c.args.count c.args.stride (ltb-true _ _ small.0) (ltb-true _ _ small.1))

pub returns-then-count-stride : goal.returns-then-count-stride
returns-then-count-stride c =
    by_product c.args.place (c.args.count * c.args.stride) c.args.to (omega (arith, c.if-to-place.false))

pub returns-then-stride-eq0 : goal.returns-then-stride-eq0
returns-then-stride-eq0 c =
    yes_le (c.args.place + c.args.count * c.args.stride) c.args.to (rw (c.if-stride-eq0.true, mul-zero) (omega arith))

pub returns : goal.returns
returns c =
    by_quotient c.args.place c.args.count c.args.stride c.args.to (omega arith) (omega arith)
