-- An array and a context, each by the other: the loop keeps `Going`, a context's checks decide what it does, and the number that
-- falls combines levels left and bytes left.
use Prim.Native.Nat.{ℕ, suc, ◌+◌, ◌*◌, ◌^◌, ◌-◌, ◌≤◌}
use mathlib.Core.List.{List}
use mathlib.Core.Path.{◌≡◌}
use lib.ListN.{length}
use Rattle.context.specs.Sound.{targets_in}
use Rattle.context.specs.Entry.{Entry}
use Rattle.traversal.specs.Traversal.{depth_limit}
use Rattle.traversal.specs.Walk.{Slices, slices}
use Rattle.walk.specs.State.{Holds}
use Rattle.walk.proofs.Going.{Going}
use Rattle.walk.proofs.+array_visit.Given as goal

abbrev pub decreases-array : goal.decreases-array
decreases-array l = (suc depth_limit - l.depth) * 2 ^ 64 + (l.stop - l.at) + 1

abbrev pub decreases-visit : goal.decreases-visit
decreases-visit l = (suc depth_limit - l.depth) * 2 ^ 64 + (l.stop - l.p)

abbrev pub invariant-array-loop-p : goal.invariant-array-loop-p
invariant-array-loop-p l =
    (l.at ≤ l.p) × (length l.listing ≡ length l.initial.listing) × (length l.table ≡ length l.initial.table)
    × (length l.records ≡ length l.initial.records)
    × ((was : Slices) (so : List Entry) (ups : List ℕ) → suc (length ups) ≡ l.depth
    → Holds was so (slices l.initial.listing l.initial.table l.initial.records) l.count
    → Going l.file (targets_in l.targets) l.depth l.at l.stop was so l.parent ups (slices l.listing l.table l.records) l.p l.n)

abbrev pub decreases-array-loop-p : goal.decreases-array-loop-p
decreases-array-loop-p l = l.stop - l.p
