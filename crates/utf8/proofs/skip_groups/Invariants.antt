-- Group by group.
use Rattle.std.proofs.Common.{◌-◌, length}
use Rattle.utf8.specs.Progress.{Spans}
use Rattle.utf8.proofs.skip_groups.Given as goal

abbrev pub invariant-loop-group : goal.invariant-loop-group
invariant-loop-group l = Spans l.bytes l.from l.i

abbrev pub decreases-loop-group : goal.decreases-loop-group
decreases-loop-group l = length l.bytes - l.i
