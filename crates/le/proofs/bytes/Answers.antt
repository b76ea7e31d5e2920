-- What stands there.
use Rattle.le.proofs.Laws.{taken}
use Rattle.le.proofs.bytes.Goals as goal

pub returns : goal.returns
returns g c =
    taken _ c.args.file.now c.args.at c.copy_from_slice.ensures.after
