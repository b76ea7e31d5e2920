-- The entries up to the one at k are listed, and each of them comes before the next.
use Rattle.profile_lists.specs.Lists.{entries_in}
use Rattle.profile_lists.proofs.Loops.{Checking}
use Rattle.profile_lists.proofs.check_entries.Given as goal

abbrev pub invariant-loop-k : goal.invariant-loop-k
invariant-loop-k l = Checking (entries_in l.entries) l.profiles l.k l.listed l.sorted
