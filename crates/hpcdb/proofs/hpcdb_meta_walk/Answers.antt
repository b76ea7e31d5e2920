-- The walk says all of it.
use Rattle.traversal.proofs.Demand3.{said_as}
use Rattle.hpcdb.proofs.hpcdb_meta_walk.Goals as goal

pub returns : goal.returns
returns c =
    said_as c.walk.ensures c.put_walked.ensures
