-- After t places the next one stands at at + t * 8, and is where tuple t will be.
use mathlib.Core.Path.{◌≡◌}
use lib.ListN.{length}
use Rattle.buffer.specs.Over.{over}
use Rattle.profile_writer.specs.Table.{place_of_tuple, places_of}
use Rattle.profile_writer.proofs.put_places.Given as goal

abbrev pub invariant-loop-t : goal.invariant-loop-t
invariant-loop-t l = (length l.file ≡ length l.initial.file) × (l.place ≡ place_of_tuple l.tuples l.at l.t)
    × (l.file ≡ over l.initial.file l.at (places_of l.tuples l.at l.t))
