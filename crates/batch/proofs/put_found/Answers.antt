-- By the case.
use Rattle.block.specs.Block.{found_words}
use Rattle.batch.proofs.put_found.Goals as goal

pub returns-in-Some : goal.returns-in-Some
unfolding found_words
returns-in-Some c = rw c.in-Some.is c.store.ensures

pub returns-in-None : goal.returns-in-None
unfolding found_words
returns-in-None c = rw c.in-None.is c.store-in-None.ensures
