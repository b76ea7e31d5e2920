-- A chunk less at each turn.
use Prim.Native.Nat.{◌-◌}
use Rattle.dcpi_entries.proofs.Putting.{PuttingChunks}
use Rattle.dcpi_entries.proofs.put_chunks.Given as goal

abbrev pub invariant-loop-p : goal.invariant-loop-p
invariant-loop-p l = PuttingChunks l.series.profile l.series.metric l.samples l.initial.entries l.entries l.p l.next

abbrev pub decreases-loop-p : goal.decreases-loop-p
decreases-loop-p l = l.totals - l.p
