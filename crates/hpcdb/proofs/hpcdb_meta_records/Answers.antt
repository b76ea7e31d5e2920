-- The walk says all of it.
use Rattle.traversal.proofs.Demand3.{said_as}
use Rattle.hpcdb.proofs.hpcdb_meta_records.Goals as goal

pub returns : goal.returns
returns c =
    said_as c.records.ensures c.put_walked.ensures
