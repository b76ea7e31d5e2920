-- The three arrays, put for their definitions.
use Rattle.context.specs.Context.{targets_of}
use Rattle.open.specs.Format.{meta}
use Rattle.open.specs.Names as Section
use Rattle.array.proofs.Bounds.{header_in}
use native.Mathlib.Omega.{arith}
use Rattle.context.proofs.targets_of.Goals as goal

pub of_specs-functions-requires : goal.of_specs-functions-requires
of_specs-functions-requires c =
    header_in meta c.args.file.now c.requires Section.functions (omega arith)

pub of_specs-files-requires : goal.of_specs-files-requires
of_specs-files-requires c =
    header_in meta c.args.file.now c.requires Section.files (omega arith)

pub of_specs-modules-requires : goal.of_specs-modules-requires
of_specs-modules-requires c =
    header_in meta c.args.file.now c.requires Section.modules (omega arith)

pub returns : goal.returns
unfolding targets_of
returns c =
    rw (← c.of_specs-functions.ensures, ← c.of_specs-files.ensures, ← c.of_specs-modules.ensures)
