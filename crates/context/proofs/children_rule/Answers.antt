-- The reads, put for the fields.
use Rattle.open.specs.Opening.{field}
use native.Mathlib.Nat.{add-zero}
use Rattle.context.specs.Context.{children_rule}
use Rattle.context.proofs.children_rule.Goals as goal

pub returns : goal.returns
unfolding children_rule field
returns c =
    rw (c.contexts_rule.ensures, c.load_u64-bytes.ensures, c.load_u64-place.ensures, add-zero c.args.p)
