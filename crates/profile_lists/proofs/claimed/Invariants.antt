-- The total is what the tuples passed claim, and at most `most`.
use Prim.Native.Nat.{◌≤◌}
use mathlib.Core.Path.{◌≡◌}
use Rattle.seq.specs.Sequence.{sum}
use Rattle.profile_lists.specs.Lists.{word_of}
use Rattle.profile_lists.proofs.claimed.Given as goal

abbrev pub invariant-loop-size : goal.invariant-loop-size
invariant-loop-size l = (l.total ≡ sum (word_of l.tuples) l.size-index) × (l.total ≤ l.most)
