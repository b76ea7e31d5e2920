-- By whether the file opens; then the array lies in it.
use mathlib.Core.Path.{◌∙◌}
use Rattle.refusal.proofs.Checks.{handed_on}
use Rattle.std.specs.Prelude.{Err}
use Rattle.open.specs.Format.{meta}
use Rattle.open.specs.Names as Section
use Rattle.open.proofs.Answer.{answers, refuses}
use Rattle.array.proofs.Bounds.{header_there, array_there}
use Rattle.meta.specs.Names.{source_at}
use native.Mathlib.Omega.{arith}
use Rattle.meta.proofs.source_file.Goals as goal

pub of_specs-files-requires : goal.of_specs-files-requires
of_specs-files-requires c =
    header_there meta _ c.in_ok-sections.ensures Section.files (omega arith)

pub source_in-requires : goal.source_in-requires
source_in-requires c =
    array_there meta _ c.in_ok-sections.ensures Section.files (omega arith) (omega arith)
    c.of_specs-files.ensures

pub returns : goal.returns
unfolding source_at
returns c =
    rw (c.source_in.ensures, c.of_specs-files.ensures)
    (answers meta _ Err _ c.in_ok-sections.ensures)

pub returns-in_err-sections : goal.returns-in_err-sections
unfolding source_at
returns-in_err-sections c =
    handed_on c.from_residual.ensures.1 ∙ refuses meta _ Err _ c.in_err-sections.ensures
