-- Each element ends where the array does at the latest.
use mathlib.Core.Path.{refl}
use Prim.Native.Nat.{◌+◌}
use Rattle.block.proofs.Parts.{small, element_ends}
use native.Mathlib.Omega.{arith}
use Rattle.block.proofs.element.Goals as goal

pub overflow_add-result : goal.overflow_add-result
overflow_add-result c =
    omega (arith, small c.requires.elements_inside.width)

pub overflow_mul-result : goal.overflow_mul-result
overflow_mul-result c =
    omega (
      arith,
      small c.requires.elements_inside.width,
      element_ends c.args.k c.args.n (c.args.w + 8) c.requires.k_lt_n,
      c.requires.elements_inside.ends,
    )

pub overflow_add-result-2 : goal.overflow_add-result-2
overflow_add-result-2 c =
    omega (
      arith,
      small c.requires.elements_inside.width,
      element_ends c.args.k c.args.n (c.args.w + 8) c.requires.k_lt_n,
      c.requires.elements_inside.ends,
    )

pub returns : goal.returns
returns c =
    record {
      value = refl;
      w_in_bounds = omega (arith, element_ends c.args.k c.args.n (c.args.w + 8) c.requires.k_lt_n, c.requires.elements_inside.ends);
    }
