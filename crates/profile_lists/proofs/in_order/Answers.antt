-- The six fields, put for what they are: the code is the rule's own expression.
use native.Mathlib.Numerals.{add-one}
use Rattle.profile_file.specs.Check.{before_rule}
use Rattle.profile_lists.proofs.in_order.Goals as goal

pub returns : goal.returns
unfolding before_rule
returns c =
    rw (
      c.profile_of-p.ensures,
      c.profile_of-q.ensures,
      c.context_of-c.ensures,
      c.context_of-d.ensures,
      c.metric_of-m.ensures,
      c.metric_of-n.ensures,
      add-one c.args.k,
    )
