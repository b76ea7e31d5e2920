-- By whether the element is there; the arrays' headers stand in the file, which opens.
use mathlib.Core.Path.{◌∙◌}
use Rattle.refusal.proofs.Checks.{handed_on}
use Rattle.refusal.specs.Check.{on_answer}
use Rattle.open.specs.Format.{meta}
use Rattle.open.specs.Names as Section
use Rattle.array.proofs.Bounds.{header_in, bounded}
use native.Mathlib.Omega.{arith}
use Rattle.function.proofs.function_in.Goals as goal

pub of_specs-modules-requires : goal.of_specs-modules-requires
of_specs-modules-requires c =
    header_in meta _ c.requires Section.modules (omega arith)

pub of_specs-files-requires : goal.of_specs-files-requires
of_specs-files-requires c =
    header_in meta _ c.requires Section.files (omega arith)

pub of_specs-functions-requires : goal.of_specs-functions-requires
of_specs-functions-requires c =
    header_in meta _ c.requires Section.functions (omega arith)

pub nth-requires : goal.nth-requires
nth-requires c =
    bounded meta c.args.file.now (omega arith) c.requires Section.functions (omega arith) c.of_specs-functions.ensures

pub returns : goal.returns
unfolding on_answer
returns c =
    rw (
      c.function_of.ensures,
      ← c.of_specs-modules.ensures,
      ← c.of_specs-files.ensures,
      ← c.of_specs-functions.ensures,
      ← c.nth.ensures,
      c.in_ok-at.was,
    )

pub returns-in_err-at : goal.returns-in_err-at
unfolding on_answer
returns-in_err-at c =
    handed_on c.from_residual.ensures.1 ∙ (rw (← c.of_specs-functions.ensures, ← c.nth.ensures, c.in_err-at.was))
