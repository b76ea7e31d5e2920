-- Along the array: the lead among the contexts passed.
use Rattle.std.specs.Prelude.{Ok}
use Prim.Native.Nat.{◌-◌}
use mathlib.Core.Path.{◌≡◌}
use Rattle.block.specs.Block.{profile_shape, lookup_in}
use Rattle.open.specs.Opening.{field}
use Rattle.context.specs.Context.{ctx_id, children_end}
use Rattle.hot_path.proofs.Seeking.{Seeking}
use Rattle.hot_path.proofs.hottest_at.Given as goal

abbrev pub invariant-loop-p : goal.invariant-loop-p
invariant-loop-p l = (l.stop ≡ children_end l.meta l.at) × Seeking l.meta (λ q. Ok (lookup_in l.db profile_shape l.b (field l.meta q ctx_id) l.metric)) l.at l.p l.lead

abbrev pub decreases-loop-p : goal.decreases-loop-p
decreases-loop-p l = l.stop - l.p
