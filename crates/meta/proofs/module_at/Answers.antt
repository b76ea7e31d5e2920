-- By whether the file opens; then the array lies in it.
use mathlib.Core.Path.{◌∙◌}
use Rattle.refusal.proofs.Checks.{handed_on}
use Rattle.std.specs.Prelude.{Err}
use Rattle.open.specs.Format.{meta}
use Rattle.open.specs.Names as Section
use Rattle.open.proofs.Answer.{answers, refuses}
use Rattle.array.proofs.Bounds.{header_there, array_there}
use Rattle.meta.specs.Names.{module_at}
use native.Mathlib.Omega.{arith}
use Rattle.meta.proofs.module_at.Goals as goal

pub of_specs-modules-requires : goal.of_specs-modules-requires
of_specs-modules-requires c =
    header_there meta _ c.in_ok-sections.ensures Section.modules (omega arith)

pub element_text-requires : goal.element_text-requires
element_text-requires c =
    array_there meta _ c.in_ok-sections.ensures Section.modules (omega arith) (omega arith)
    c.of_specs-modules.ensures

pub returns : goal.returns
unfolding module_at
returns c =
    rw (c.element_text.ensures, c.of_specs-modules.ensures)
    (answers meta _ Err _ c.in_ok-sections.ensures)

pub returns-in_err-sections : goal.returns-in_err-sections
unfolding module_at
returns-in_err-sections c =
    handed_on c.from_residual.ensures.1 ∙ refuses meta _ Err _ c.in_err-sections.ensures
