-- The walk says all of it.
use Rattle.traversal.proofs.Demand3.{said_as}
use Rattle.hpcdb.proofs.hpcdb_meta_walk_from.Goals as goal

pub returns : goal.returns
returns c =
    said_as c.walk_from.ensures c.put_walked.ensures
