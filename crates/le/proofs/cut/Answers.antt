-- What stands there of the file, and zeros.
use Rattle.std.proofs.Common.{◌+◌}
use Rattle.le.proofs.Laws.{filled}
use Rattle.le.proofs.cut.Goals as goal

pub returns : goal.returns
returns g c =
    filled _ _ c.args.file.now (c.args.at + c.args.offset) c.copy_from_slice.ensures.after c.min-n.ensures c.place_in-from.ensures
