-- Level by level: the places found so far, and the way from there on.
use Rattle.std.specs.Prelude.{Ok}
use mathlib.Core.List.{List}
use mathlib.Core.Path.{◌≡◌}
use lib.ListN.{length}
use Rattle.block.specs.Block.{profile_shape, lookup_in}
use Rattle.context.specs.Entry.{Entry}
use Rattle.traversal.specs.Children.{Children}
use Rattle.hot_path.proofs.Descending.{Descending}
use Rattle.hot_path.proofs.descend.Given as goal

abbrev pub invariant-loop-n : goal.invariant-loop-n
invariant-loop-n l = (length l.places ≡ length l.initial.places)
    × ((so : List Entry) (k : Children l.meta so) → Descending l.meta (λ id. Ok (lookup_in l.db profile_shape l.b id l.metric)) so k l.at l.places l.n)
