-- By whether the file opens; then the array lies in it.
use mathlib.Core.Path.{◌∙◌}
use Rattle.refusal.proofs.Checks.{handed_on}
use Rattle.std.specs.Prelude.{Err}
use Rattle.open.specs.Format.{meta}
use Rattle.open.specs.Names as Section
use Rattle.open.proofs.Answer.{answers, refuses}
use Rattle.array.proofs.Bounds.{header_there, array_there}
use Rattle.meta.specs.Names.{kind_at}
use native.Mathlib.Omega.{arith}
use Rattle.meta.proofs.kind_at.Goals as goal

pub of_names-names-requires : goal.of_names-names-requires
of_names-names-requires c =
    header_there meta _ c.in_ok-sections.ensures Section.id_names (omega arith)

pub element_text-requires : goal.element_text-requires
element_text-requires c =
    array_there meta _ c.in_ok-sections.ensures Section.id_names (omega arith) (omega arith)
    c.of_names-names.ensures

pub returns : goal.returns
unfolding kind_at
returns c =
    rw (c.element_text.ensures, c.of_names-names.ensures)
    (answers meta _ Err _ c.in_ok-sections.ensures)

pub returns-in_err-sections : goal.returns-in_err-sections
unfolding kind_at
returns-in_err-sections c =
    handed_on c.from_residual.ensures.1 ∙ refuses meta _ Err _ c.in_err-sections.ensures
