-- Bits of a finite value are no NaN's.
use mathlib.Core.Path.{refl}
use Rattle.float.proofs.Sums.{finite_bits}
use Rattle.total.proofs.plus.Goals as goal

pub float_from_bits-result : goal.float_from_bits-result
float_from_bits-result c =
    finite_bits c.args.bits c.requires

pub returns : goal.returns
returns c =
    refl
