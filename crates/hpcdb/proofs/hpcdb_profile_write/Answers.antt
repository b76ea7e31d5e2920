-- The answer, in words; the lent bytes are as the writer leaves them.
use Rattle.hpcdb.proofs.hpcdb_profile_write.Goals as goal

pub returns : goal.returns
returns c =
    record {
      code = rw (← c.write.ensures.answer) c.put.ensures.value;
      words = rw (← c.write.ensures.answer) c.put.ensures.out_after;
      bytes = c.write.ensures.bytes;
    }
