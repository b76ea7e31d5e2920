-- The blocks of the profiles passed are measured, and the next run starts at `start`.
-- No sum wraps, as a block has no more bytes than its entries.
use Rattle.profile_lists.specs.Lists.{entries_in}
use Rattle.profile_lists.proofs.Loops.{Measured}
use Rattle.profile_lists.proofs.measure.Given as goal

abbrev pub invariant-loop-p : goal.invariant-loop-p
invariant-loop-p l = Measured (entries_in l.entries) l.profiles l.p l.start l.bytes
