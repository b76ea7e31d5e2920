-- The part holds the bytes.
use Rattle.std.proofs.Common.{◌∙◌, arith}
use Rattle.buffer.proofs.Laws.{over_part}
use Rattle.put.proofs.Bytes.{std_bytes}
use Rattle.put.proofs.store_u64.Goals as goal

pub returns : goal.returns
returns c =
    rw (← std_bytes 8 c.args.x) (over_part c.args.out.now c.args.at _ _ (c.copy_from_slice.ensures.after ∙ c.to_le_bytes.ensures) (omega arith) c.requires)
