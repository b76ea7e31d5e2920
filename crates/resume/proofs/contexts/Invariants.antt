-- The loop keeps `Flat`: by whether the array is done, and how the visit of the next context is answered. Twice the free slots of the table
-- and the depth fall.
use Prim.Native.Nat.{ℕ, ◌+◌, ◌*◌}
use Rattle.context.specs.Sound.{targets_in}
use Rattle.mark.specs.Mark.{decode, path_in}
use Rattle.traversal.specs.Traversal.{Marks}
use Rattle.traversal.specs.Walk.{slices}
use Rattle.resume.proofs.Flat.{Flat}
use Rattle.resume.proofs.Free.{free_slots}
use Rattle.resume.proofs.contexts.Given as goal

abbrev pub invariant-loop-here : goal.invariant-loop-here
invariant-loop-here l =
    (m : Marks) (bytes : ℕ) → Flat l.file (targets_in l.targets) (path_in (decode l.mark))
    (slices l.initial.listing l.initial.table l.initial.records) l.at l.stop m bytes
    (slices l.listing l.table l.records) l.way l.here l.so_far.marks l.so_far.seek

abbrev pub decreases-loop-here : goal.decreases-loop-here
decreases-loop-here l = 2 * free_slots l.table + l.here.up
