-- Records for which there is no room change nothing.
use Rattle.traversal.proofs.Unmarked.{no_records}
use Rattle.walk.proofs.walk.Goals as goal

pub returns : goal.returns
returns c =
    no_records c.records.ensures
