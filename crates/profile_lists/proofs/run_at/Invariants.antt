-- The k entries from `start` on are of profile p's run, and their contexts are counted; the first that is of another profile ends it.
use Rattle.profile_lists.specs.Lists.{entries_in}
use Rattle.profile_lists.proofs.Loops.{Counting}
use Rattle.profile_lists.proofs.run_at.Given as goal

abbrev pub invariant-loop-k : goal.invariant-loop-k
invariant-loop-k l = Counting (entries_in l.entries) l.p l.start l.k l.contexts
