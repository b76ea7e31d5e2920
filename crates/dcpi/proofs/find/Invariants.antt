-- A chunk less at each turn, in which no count is for the offset.
use Prim.Native.Nat.{◌-◌}
use Rattle.dcpi.proofs.Finding.{Finding}
use Rattle.dcpi.proofs.find.Given as goal

abbrev pub invariant-loop-p : goal.invariant-loop-p
invariant-loop-p l = Finding l.samples l.offset l.p

abbrev pub decreases-loop-p : goal.decreases-loop-p
decreases-loop-p l = l.end - l.p
