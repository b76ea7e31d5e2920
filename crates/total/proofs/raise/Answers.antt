-- The step where the value is greater than all: the least stays.
use Rattle.refusal.specs.Check.{either}
use Rattle.total.specs.Totals.{step_of}
use Rattle.total.proofs.Tallies.{good_next}
use Rattle.total.proofs.raise.Goals as goal

pub returns : goal.returns
unfolding step_of either
returns c =
    record {
      value = rw (c.requires.least_value, c.requires.bits_value_2, c.plus.ensures);
      good_2 = good_next c.args.t c.args.id c.args.bits c.requires.good c.requires.bits_value (rw (c.requires.least_value, c.requires.bits_value_2, c.plus.ensures));
    }
