-- The outer ids passed rise, and their sub-arrays are right; the next one starts at `start`.
use Rattle.block.specs.declared.Shape.{Shape}
use Rattle.block.specs.Block.{start_of, outer_ids}
use Rattle.block.specs.OnePass.{part_rule}
use Rattle.seq.specs.Sequence.{every}
use Rattle.seq.proofs.Rising.{Rising}
use Prim.Native.Nat.{◌<◌}
use mathlib.Core.Bool.{true}
use mathlib.Core.Path.{◌≡◌}
use Rattle.block.proofs.keeps_order.Given as goal

abbrev pub invariant-loop-i : goal.invariant-loop-i
invariant-loop-i g l =
    (h : Shape) → h.outer ≡ g.row.OUTER → h.inner ≡ g.row.INNER → h.least ≡ l.least
    → Rising 0 1 (outer_ids l.file h l.b) l.n l.low l.i × (every (part_rule l.file h l.b) l.i ≡ true)
    × (l.i < l.n → l.start ≡ start_of l.file h l.b l.i)
