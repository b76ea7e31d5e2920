-- Behind the head a turn writes the number of one level, and then reads where the array on the next starts.
use Rattle.resume.proofs.Writing.{Marked}
use Rattle.resume.proofs.put_mark.Given as goal

abbrev pub invariant-loop-d : goal.invariant-loop-d
invariant-loop-d l = Marked l.file l.start l.way l.initial.out l.out l.from l.d
