-- By whether the file opens.
use Rattle.refusal.proofs.Checks.{handed_on}
use Rattle.std.specs.Prelude.{Err}
use Rattle.refusal.specs.Check.{Answer}
use Rattle.array.specs.declared.Array.{Array}
use Rattle.tuple.proofs.Fits.{tuples_inside}
use Rattle.tuple.specs.Tuple.{tuple_in, tuple_at}
use Rattle.array.proofs.Bounds.{header_in, bounded}
use Rattle.open.proofs.Answer.{answers, refuses, sections, two_pairs}
use Rattle.open.specs.Format as Format
use Rattle.open.specs.Names as Section
use Prim.Native.Nat.{ℕ}
use mathlib.Core.List.{List}
use mathlib.Core.Path.{refl, ap, ◌∙◌}
use native.Mathlib.Omega.{arith}
use Rattle.tuple.proofs.tuple_at.Goals as goal

pub tuple_in-requires : goal.tuple_in-requires
tuple_in-requires c =
    let opened = sections c.in_ok-sections.ensures in
    record {
      bounded = bounded Format.profile c.args.file.now (omega arith) opened Section.infos (omega arith) refl;
      section_inside = tuples_inside c.args.file.now opened;
      infos_in_bounds = header_in Format.profile c.args.file.now opened Section.infos (omega arith);
    }

pub returns : goal.returns
unfolding tuple_at
returns c =
    let tuple : List (List ℕ) → Answer Array = λ ps. tuple_in c.args.file.now ps c.args.profile in
    c.tuple_in.ensures ∙ ap tuple (two_pairs Format.profile c.args.file.now refl c.in_ok-sections.ensures)
    ∙ answers Format.profile c.args.file.now Err tuple c.in_ok-sections.ensures

pub returns-in_err-sections : goal.returns-in_err-sections
unfolding tuple_at
returns-in_err-sections c =
    handed_on c.from_residual.ensures.1 ∙ refuses Format.profile _ Err _ c.in_err-sections.ensures
