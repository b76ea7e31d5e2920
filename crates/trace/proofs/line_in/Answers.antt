-- By whether the line is there.
use mathlib.Core.Path.{◌∙◌}
use Rattle.refusal.proofs.Checks.{handed_on}
use Rattle.refusal.specs.Check.{on_answer}
use Rattle.trace.specs.Trace.{line_in}
use native.Mathlib.Nat.{add-zero}
use Rattle.trace.proofs.line_in.Goals as goal

pub nth-requires : goal.nth-requires
nth-requires c =
    rw c.of_infos-headers.ensures c.requires.bounded

pub returns : goal.returns
unfolding line_in on_answer
returns c =
    rw (
      c.line_of.ensures,
      c.u32_at-profile.ensures,
      c.u64_at-start.ensures,
      c.u64_at-end.ensures,
      add-zero,
      ← c.of_infos-headers.ensures,
      ← c.nth.ensures,
      c.in_ok-at.was,
    )

pub returns-in_err-at : goal.returns-in_err-at
unfolding line_in on_answer
returns-in_err-at c =
    handed_on c.from_residual.ensures.1 ∙ (rw (← c.of_infos-headers.ensures, ← c.nth.ensures, c.in_err-at.was))
