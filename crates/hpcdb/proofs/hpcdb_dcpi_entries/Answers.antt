-- The answer, in words; the lent bytes are as the list leaves them.
use Rattle.hpcdb.proofs.hpcdb_dcpi_entries.Goals as goal

pub returns : goal.returns
returns c =
    record {
      code = rw (← c.list.ensures.answer) c.put.ensures.value;
      words = rw (← c.list.ensures.answer) c.put.ensures.out_after;
      bytes = c.list.ensures.bytes;
    }
