-- The test is the one that `finite_is` proves.
use Rattle.float.proofs.Finite.{finite_is}
use Rattle.float.proofs.is_finite.Goals as goal

pub returns : goal.returns
returns c =
    finite_is c.args.bits
