-- A count more at each turn, which is zero or not.
use Rattle.dcpi.proofs.Summed.{Summed}
use Rattle.dcpi.proofs.chunk_sums.Given as goal

abbrev pub invariant-loop-i : goal.invariant-loop-i
invariant-loop-i l = Summed l.samples l.at l.n l.zeros l.sum l.i
