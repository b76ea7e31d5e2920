-- A count less at each turn: an entry is written for it, and the next one goes behind it if it is not zero.
use Rattle.dcpi_entries.proofs.Putting.{Putting}
use Rattle.dcpi_entries.proofs.put_counts.Given as goal

abbrev pub invariant-loop-i : goal.invariant-loop-i
invariant-loop-i l =
    Putting l.series.profile l.series.metric l.samples l.place l.offset l.n l.initial.entries l.at l.end l.entries l.next l.i
