-- By whether the file opens.
use mathlib.Core.Path.{◌∙◌}
use Rattle.refusal.proofs.Checks.{handed_on}
use Rattle.std.specs.Prelude.{Err}
use Rattle.open.specs.Format as Format
use Rattle.open.specs.Names as Section
use Rattle.open.proofs.Answer.{answers, refuses}
use Rattle.array.proofs.Bounds.{header_there}
use Rattle.count.specs.Count.{count_of}
use native.Mathlib.Omega.{arith}
use Rattle.count.proofs.profiles.Goals as goal

pub elements-requires : goal.elements-requires
elements-requires c =
    header_there Format.profile _ c.in_ok-sections.ensures Section.infos
    (omega arith)

pub returns : goal.returns
unfolding count_of
returns c =
    rw c.elements.ensures
    (answers Format.profile _ Err _ c.in_ok-sections.ensures)

pub returns-in_err-sections : goal.returns-in_err-sections
unfolding count_of
returns-in_err-sections c =
    handed_on c.from_residual.ensures.1 ∙ refuses Format.profile _ Err _ c.in_err-sections.ensures
