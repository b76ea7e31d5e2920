-- By whether the file opens.
use Rattle.refusal.proofs.Checks.{handed_on}
use Rattle.std.specs.Prelude.{Err}
use Rattle.refusal.specs.Check.{Answer}
use Rattle.trace.specs.declared.Line.{Line}
use Rattle.trace.specs.Trace.{line_in, line_at}
use Rattle.array.proofs.Bounds.{header_in, bounded}
use Rattle.open.proofs.Answer.{answers, refuses, sections, one_pair}
use Rattle.open.specs.Format as Format
use Rattle.open.specs.Names as Section
use Prim.Native.Nat.{ℕ}
use mathlib.Core.List.{List}
use mathlib.Core.Path.{refl, ap, ◌∙◌}
use native.Mathlib.Omega.{arith}
use Rattle.trace.proofs.line_at.Goals as goal

pub line_in-requires : goal.line_in-requires
line_in-requires c =
    let opened = sections c.in_ok-sections.ensures in
    record {
      bounded = bounded Format.trace c.args.file.now (omega arith) opened Section.infos (omega arith) refl;
      section_in_bounds = header_in Format.trace c.args.file.now opened Section.infos (omega arith);
    }

pub returns : goal.returns
unfolding line_at
returns c =
    let line : List (List ℕ) → Answer Line = λ ps. line_in c.args.file.now ps c.args.i in
    c.line_in.ensures ∙ ap line (one_pair Format.trace c.args.file.now refl c.in_ok-sections.ensures)
    ∙ answers Format.trace c.args.file.now Err line c.in_ok-sections.ensures

pub returns-in_err-sections : goal.returns-in_err-sections
unfolding line_at
returns-in_err-sections c =
    handed_on c.from_residual.ensures.1 ∙ refuses Format.trace _ Err _ c.in_err-sections.ensures
