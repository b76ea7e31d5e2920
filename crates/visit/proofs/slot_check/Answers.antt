-- By depth, then by slot.
use lib.ListN.{length, get_or}
use lib.Dec.{eqb}
use Rattle.visit.proofs.Slices.{not_not}
use native.Mathlib.Omega.{arith}
use borrow.Author.Tests.{lt-ltb, le-ltb, le-leb, lt-leb}
use Rattle.refusal.specs.Check.{rule}
use Rattle.traversal.specs.Traversal.{slot_check, depth_limit}
use Rattle.visit.proofs.slot_check.Goals as goal

pub returns-then-depth-gt-DEPTH_LIMIT : goal.returns-then-depth-gt-DEPTH_LIMIT
unfolding slot_check rule
returns-then-depth-gt-DEPTH_LIMIT c =
    rw (lt-leb c.args.depth depth_limit c.if-depth-gt-DEPTH_LIMIT.true)

pub returns-then-table-id : goal.returns-then-table-id
unfolding slot_check rule
returns-then-table-id c =
    rw (le-leb c.args.depth depth_limit (omega (arith, c.if-depth-gt-DEPTH_LIMIT.false)), le-ltb c.args.id (length c.args.table.now) c.if-table-id.true)

pub returns : goal.returns
unfolding slot_check rule
returns c =
    rw (
      le-leb c.args.depth depth_limit (omega (arith, c.if-depth-gt-DEPTH_LIMIT.false)),
      lt-ltb c.args.id (length c.args.table.now) (omega (arith, c.if-table-id.false)),
      c.rule.ensures,
      not_not (eqb (get_or c.args.table.now c.args.id 0) 0),
    )
