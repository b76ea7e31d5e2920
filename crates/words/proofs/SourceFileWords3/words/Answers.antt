-- Whether it was copied, as 1 or 0.
use Rattle.words.proofs.Laws.{as_bit}
use Rattle.words.proofs.SourceFileWords3.words.Goals as goal

pub returns : goal.returns
returns c = rw (c.from.ensures, as_bit)
