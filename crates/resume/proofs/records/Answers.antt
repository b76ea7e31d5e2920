-- No mark, and none asked for: the bytes lent for one change nothing.
use Rattle.traversal.proofs.Unmarked.{no_marks}
use Rattle.resume.proofs.records.Goals as goal

pub returns : goal.returns
returns c =
    no_marks c.walk_from.ensures
