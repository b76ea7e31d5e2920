-- A sum of bits for each field; past the last field all count.
use Prim.Native.Nat.{◌≤◌}
use native.Mathlib.Omega.{arith}
use Rattle.flex.proofs.Count.{before0, before1, before2, before3, before4, before_all, all}
use Rattle.flex.proofs.before.Goals as goal

pub returns-in-0 : goal.returns-in-0
returns-in-0 c =
    rw c.in-0.is (omega (arith, before0 c.args.flags))

pub returns-in-1 : goal.returns-in-1
returns-in-1 c =
    rw c.in-1.is (omega (arith, before1 c.args.flags))

pub returns-in-2 : goal.returns-in-2
returns-in-2 c =
    rw c.in-2.is (omega (arith, before2 c.args.flags))

pub returns-in-3 : goal.returns-in-3
returns-in-3 c =
    rw c.in-3.is (omega (arith, before3 c.args.flags))

pub returns-in-4 : goal.returns-in-4
returns-in-4 c =
    rw c.in-4.is (omega (arith, before4 c.args.flags))

pub returns-in_default : goal.returns-in_default
returns-in_default c =
    let past : 5 ≤ c.args.field = omega arith in
    omega (arith, before_all c.args.flags c.args.field past, all c.args.flags)
