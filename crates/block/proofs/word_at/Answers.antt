-- The word stands behind the id.
use Rattle.block.specs.Block.{word_at}
use Rattle.block.proofs.word_at.Goals as goal

pub returns : goal.returns
unfolding word_at
returns c =
    rw (c.load_u64.ensures, c.element.ensures.value)
