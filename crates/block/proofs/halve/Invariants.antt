-- The key, if it is anywhere, is among the `left` ids from `low` on.
use Rattle.block.specs.Block.{id_at}
use Rattle.seq.specs.Sequence.{Window}
use Rattle.block.proofs.halve.Given as goal

abbrev pub invariant-loop-left : goal.invariant-loop-left
invariant-loop-left l = Window (id_at l.w l.file l.at) l.n l.key l.low l.left

abbrev pub decreases-loop-left : goal.decreases-loop-left
decreases-loop-left l = l.left
