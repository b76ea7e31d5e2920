-- By whether the file opens.
use Rattle.std.specs.Prelude.{Err}
use Prim.Native.Nat.{ℕ}
use mathlib.Core.List.{List}
use mathlib.Core.Path.{refl, ap, ◌∙◌}
use mathlib.Core.Logic.{inl, inr}
use native.Mathlib.Omega.{arith}
use Rattle.refusal.specs.Check.{Answer}
use Rattle.refusal.proofs.Checks.{handed_on}
use Rattle.open.specs.Format as Format
use Rattle.open.specs.Names as Section
use Rattle.open.proofs.Answer.{answers, refuses, sections, two_pairs}
use Rattle.array.proofs.Bounds.{header_in, bounded}
use Rattle.block.specs.declared.Block.{Block}
use Rattle.block.specs.Block.{profile_shape}
use Rattle.lookup.specs.Lookup.{checked_at, profile_block}
use Rattle.lookup.proofs.profile_block.Goals as goal

pub checked_at-requires : goal.checked_at-requires
checked_at-requires c =
    let opened = sections c.in_ok-sections.ensures in
    record {
      widths = rw c.profile_shape-h.ensures (inr refl, inl refl);
      bounded = bounded Format.profile c.args.file.now (omega arith) opened Section.infos (omega arith) refl;
      one_in_bounds = header_in Format.profile c.args.file.now opened Section.infos (omega arith);
    }

pub returns : goal.returns
unfolding profile_block
returns c =
    let block : List (List ℕ) → Answer Block = λ ps. checked_at c.args.file.now profile_shape ps c.args.profile in
    rw (c.checked_at.ensures, c.profile_shape-h.ensures)
    (ap block (two_pairs Format.profile c.args.file.now refl c.in_ok-sections.ensures)
    ∙ answers Format.profile c.args.file.now Err block c.in_ok-sections.ensures)

pub returns-in_err-sections : goal.returns-in_err-sections
unfolding profile_block
returns-in_err-sections c = handed_on c.from_residual.ensures.1 ∙ refuses Format.profile _ _ _ c.in_err-sections.ensures
