-- By whether the path is there.
use mathlib.Core.Path.{◌∙◌}
use Rattle.refusal.proofs.Checks.{handed_on}
use Rattle.refusal.specs.Check.{on_answer}
use Rattle.meta.specs.Names.{source_of, is_copied}
use native.Mathlib.Nat.{add-zero}
use Rattle.meta.proofs.source_of.Goals as goal

pub returns : goal.returns
unfolding source_of is_copied on_answer
returns c =
    rw (← c.string_of.ensures, c.in_ok-path.was, c.u32_at.ensures, add-zero)

pub returns-in_err-path : goal.returns-in_err-path
unfolding source_of on_answer
returns-in_err-path c =
    handed_on c.from_residual.ensures.1 ∙ (rw (← c.string_of.ensures, c.in_err-path.was))
