-- The word of an index.
use Rattle.block.specs.Block.{start_of}
use Rattle.block.proofs.start_of.Goals as goal

pub returns : goal.returns
unfolding start_of
returns c = λ h e. rw e c.word_at.ensures
