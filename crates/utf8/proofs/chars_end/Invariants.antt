-- Over what is ASCII and one character more, again and again.
use Rattle.std.proofs.Common.{◌-◌, length}
use Rattle.utf8.specs.Progress.{Spans}
use Rattle.utf8.proofs.chars_end.Given as goal

abbrev pub invariant-loop-i : goal.invariant-loop-i
invariant-loop-i l = Spans l.bytes 0 l.i

abbrev pub decreases-loop-i : goal.decreases-loop-i
decreases-loop-i l = length l.bytes - l.i
