-- A chunk more at each turn; the first that breaks a rule ends the pass.
use Prim.Native.Nat.{◌-◌}
use Rattle.dcpi.proofs.PassOver.{PassOver}
use Rattle.dcpi.proofs.pass_chunks.Given as goal

abbrev pub invariant-loop-p : goal.invariant-loop-p
invariant-loop-p l = PassOver l.samples l.p l.least l.nonzero l.sum

abbrev pub decreases-loop-p : goal.decreases-loop-p
decreases-loop-p l = l.end - l.p
