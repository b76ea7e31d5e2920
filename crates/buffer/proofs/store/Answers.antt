-- The part holds the words.
use Rattle.std.proofs.Common.{arith}
use Rattle.buffer.proofs.Laws.{over_part}
use Rattle.buffer.proofs.store.Goals as goal

pub returns : goal.returns
returns c =
    over_part c.args.out.now c.args.at _ c.args.words.now c.copy_from_slice.ensures.after (omega arith) c.requires
