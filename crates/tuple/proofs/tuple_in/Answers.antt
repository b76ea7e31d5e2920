-- By whether the profile is there.
use mathlib.Core.Path.{◌∙◌}
use Rattle.refusal.proofs.Checks.{handed_on}
use Rattle.refusal.specs.Check.{on_answer}
use Rattle.tuple.specs.Tuple.{tuple_in}
use Rattle.tuple.proofs.tuple_in.Goals as goal

pub nth-requires : goal.nth-requires
nth-requires c =
    rw c.of_infos-profiles.ensures c.requires.bounded

pub returns : goal.returns
unfolding tuple_in on_answer
returns c =
    rw (c.tuple_of.ensures, c.u64_at.ensures, ← c.of_infos-profiles.ensures, ← c.nth.ensures, c.in_ok-at.was)

pub returns-in_err-at : goal.returns-in_err-at
unfolding tuple_in on_answer
returns-in_err-at c =
    handed_on c.from_residual.ensures.1 ∙ (rw (← c.of_infos-profiles.ensures, ← c.nth.ensures, c.in_err-at.was))
