-- By whether it is present; then it ends inside the words that the flags need.
use Prim.Native.Nat.{ℕ, ◌+◌, ◌*◌, ◌≤◌}
use mathlib.Core.Bool.{true}
use mathlib.Core.Path.{◌≡◌, sym, ◌∙◌}
use native.Mathlib.Omega.{arith}
use Rattle.refusal.specs.Check.{either}
use Rattle.flex.specs.Names as Flex
use Rattle.flex.specs.Packing.{is_present, place, words}
use Rattle.flex.proofs.Count.{inside}
use Rattle.context.proofs.line.Goals as goal

ends_before : (p flags n : ℕ) → is_present flags Flex.line ≡ true → p + 24 + 8 * words flags ≤ n → p + 24 + place flags Flex.line + 8 ≤ n
ends_before p flags n present h = omega (arith, inside flags Flex.line present, h)

pub overflow_add-p-then-has_source : goal.overflow_add-p-then-has_source
overflow_add-p-then-has_source c =
    omega (
      arith,
      c.place.ensures,
      ends_before c.args.p c.args.flags _ (sym c.has_source.ensures.1 ∙ c.if-has_source.true) c.requires,
    )

pub load_u32-requires : goal.load_u32-requires
load_u32-requires c =
    omega (
      arith,
      c.place.ensures,
      ends_before c.args.p c.args.flags _ (sym c.has_source.ensures.1 ∙ c.if-has_source.true) c.requires,
    )

pub returns-then-has_source : goal.returns-then-has_source
unfolding either
returns-then-has_source c = rw (← c.has_source.ensures.1, c.if-has_source.true, c.load_u32.ensures, c.place.ensures)

pub returns : goal.returns
unfolding either
returns c = rw (← c.has_source.ensures.1, c.if-has_source.false)
