-- Field by field; the sum is no NaN, so that it has bits.
use mathlib.Core.Path.{refl}
use Rattle.total.specs.Totals.{finish}
use Rattle.total.proofs.finish.Goals as goal

pub float_to_bits-result : goal.float_to_bits-result
float_to_bits-result c =
    c.requires.some

pub returns : goal.returns
unfolding finish
returns c =
    refl
