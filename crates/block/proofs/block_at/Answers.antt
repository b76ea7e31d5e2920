-- The fields, put for their definitions.
use native.Mathlib.Nat.{add-zero}
use Rattle.block.specs.Block.{block_at}
use Rattle.block.proofs.block_at.Goals as goal

pub returns : goal.returns
unfolding block_at
returns c =
    rw (← c.count_at-count.ensures, c.u64_at-total.ensures, c.u64_at-values.ensures, c.u64_at-indices.ensures, add-zero c.args.at)
