-- The step where the value is neither: only the sum changes, for any id.
use Rattle.refusal.specs.Check.{either}
use Rattle.total.specs.Totals.{step_of}
use Rattle.total.proofs.Tallies.{good_next}
use Rattle.total.proofs.add.Goals as goal

pub returns : goal.returns
unfolding step_of either
returns c =
    record {
      by_index = λ id. rw (c.requires.least_value, c.requires.bits_value_2, c.plus.ensures);
      good_2 = good_next c.args.t 0 c.args.bits c.requires.good c.requires.bits_value (rw (c.requires.least_value, c.requires.bits_value_2, c.plus.ensures));
    }
