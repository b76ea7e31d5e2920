-- The part holds the text.
use Rattle.std.proofs.Common.{arith}
use Rattle.buffer.proofs.Laws.{over_part}
use Rattle.put.proofs.text.Goals as goal

pub returns : goal.returns
returns c =
    over_part c.args.out.now c.args.at _ c.args.text.now c.copy_from_slice.ensures.after (omega arith) c.requires
