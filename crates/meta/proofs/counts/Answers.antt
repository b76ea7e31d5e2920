-- Field by field of a file that opens.
use mathlib.Core.Path.{◌∙◌}
use Rattle.refusal.proofs.Checks.{handed_on}
use Rattle.meta.specs.Names.{counts}
use Rattle.open.specs.Format.{meta}
use Rattle.open.proofs.Answer.{answers, refuses}
use Rattle.open.specs.Opening.{field}
use Rattle.array.specs.Stored.{array_of}
use Rattle.meta.proofs.counts.Goals as goal

pub returns : goal.returns
unfolding counts array_of field
returns c =
    rw (c.u32_at-4.ensures, c.u32_at-3.ensures, c.u32_at-2.ensures, c.u32_at.ensures, c.u8_at.ensures)
    (answers meta _ _ _ c.in_ok-sections.ensures)

pub returns-in_err-sections : goal.returns-in_err-sections
unfolding counts
returns-in_err-sections c =
    handed_on c.from_residual.ensures.1 ∙ refuses meta _ _ _ c.in_err-sections.ensures
