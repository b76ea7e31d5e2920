-- A count more at each turn, which is zero or not.
use Prim.Native.Nat.{◌≤◌}
use native.Mathlib.Omega.{arith}
use Rattle.dcpi.proofs.Summed.{summed_zero, summed_more, summed_all}
use Rattle.dcpi.proofs.chunk_sums.Goals as goal
use Rattle.dcpi.proofs.chunk_sums.Goals.{then-count-eq0, else-count-eq0}

pub loop-i-preserved : goal.loop-i-preserved
loop-i-preserved c =
    let e = c.load_u32-count.ensures in
    let m : c.load_u32-count.result ≤ 0xffff_ffff = omega (arith, c.load_u32-count.type_inv) in
    elim c.if-count-eq0.branch [
      | then-count-eq0 w ↦
          rw w.zeros-is
          (summed_zero _ _ _ c.loop-i.invariant c.loop-i-test.true c.load_u32-count.result e m (omega arith)
          (omega (arith, w.if-count-eq0.true)))
      | else-count-eq0 w ↦
          rw w.zeros-is
          (summed_more _ _ _ c.loop-i.invariant c.loop-i-test.true c.load_u32-count.result e m (omega arith)
          (λ q. omega (arith, w.if-count-eq0.false)))
    ]

pub returns : goal.returns
returns c =
    let all = summed_all _ _ _ c.loop-i.invariant c.loop-i-test.false in
    record {
      nonzero = λ offset. (all offset).0;
      sum = λ offset. (all offset).1;
      few = omega arith;
      small = omega (arith, c.loop-i.invariant.small, c.loop-i.invariant.within);
    }
