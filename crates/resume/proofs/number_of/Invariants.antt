-- A turn passes one context of the array, until the place is reached.
use Prim.Native.Nat.{◌-◌}
use Rattle.resume.proofs.Counting.{CountedTo}
use Rattle.resume.proofs.number_of.Given as goal

abbrev pub invariant-loop-q : goal.invariant-loop-q
invariant-loop-q l = CountedTo l.file l.start l.p l.q l.n

abbrev pub decreases-loop-q : goal.decreases-loop-q
decreases-loop-q l = l.p - l.q
