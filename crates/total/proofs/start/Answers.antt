-- Field by field; bits of a finite value are no NaN's.
use mathlib.Core.Path.{refl}
use Rattle.float.proofs.Sums.{finite_bits}
use Rattle.total.specs.Totals.{start_of}
use Rattle.total.proofs.Tallies.{good_start}
use Rattle.total.proofs.start.Goals as goal

pub float_from_bits-result : goal.float_from_bits-result
float_from_bits-result c =
    finite_bits c.args.bits c.requires

pub returns : goal.returns
unfolding start_of
returns c =
    record {
      value = refl;
      good = good_start c.args.id c.args.bits c.requires;
    }
