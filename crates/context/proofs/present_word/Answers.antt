-- It ends inside the words that the flags need.
use Prim.Native.Nat.{ℕ, ◌+◌, ◌*◌, ◌≤◌}
use mathlib.Core.Bool.{true}
use mathlib.Core.Path.{◌≡◌}
use native.Mathlib.Omega.{arith}
use Rattle.flex.specs.Packing.{is_present, place, words}
use Rattle.flex.proofs.Count.{inside}
use Rattle.context.proofs.present_word.Goals as goal

ends_before : (p flags j n : ℕ) → is_present flags j ≡ true → p + 24 + 8 * words flags ≤ n → p + 24 + place flags j + 8 ≤ n
ends_before p flags j n present h = omega (arith, inside flags j present, h)

pub overflow_add-p-2 : goal.overflow_add-p-2
overflow_add-p-2 c =
    omega (arith, c.place.ensures, ends_before c.args.p c.args.flags c.args.j _ c.requires.j_value c.requires.flags_in_bounds)

pub load_u64-requires : goal.load_u64-requires
load_u64-requires c =
    omega (arith, c.place.ensures, ends_before c.args.p c.args.flags c.args.j _ c.requires.j_value c.requires.flags_in_bounds)

pub returns : goal.returns
returns c = rw (c.load_u64.ensures, c.place.ensures)
