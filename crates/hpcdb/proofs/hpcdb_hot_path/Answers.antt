-- The answer, in words; the lent slices are as the search leaves them.
use Rattle.hot_path.specs.HotPath.{hot_path_code}
use Rattle.hot_path.proofs.Answers.{leaves_said}
use Rattle.hpcdb.proofs.hpcdb_hot_path.Goals as goal

pub returns : goal.returns
returns c =
    record {
      code = leaves_said hot_path_code c.put.ensures.value c.find.ensures;
      words = rw (← c.find.ensures.answers) c.put.ensures.out_after;
    }
