-- What the tests say of the five numbers that were read.
use Prim.Native.Nat.{◌+◌}
use native.Mathlib.Omega.{arith}
use Rattle.seq.proofs.Rising.{rises_four}
use Rattle.seq.proofs.order.four_rise.Goals as goal

pub returns : goal.returns
returns g c = λ least f gives so_far.
    rw (c.follows.ensures, c.follows-2.ensures, c.follows-3.ensures, c.follows-4.ensures)
    (rises_four least c.args.gap f c.args.k
    (gives c.args.k _ (omega arith) c.number-before.ensures)
    (gives (c.args.k + 1) _ (omega arith) c.number-one.ensures)
    (gives (c.args.k + 2) _ (omega arith) c.number-two.ensures)
    (gives (c.args.k + 3) _ (omega arith) c.number-three.ensures)
    (gives (c.args.k + 4) _ (omega arith) c.number-four.ensures)
    so_far)
