-- By the width.
use Rattle.block.proofs.Parts.{not_two}
use Rattle.le.specs.Number.{number}
use mathlib.Core.Path.{sym, ap}
use Prim.Native.Nat.{ℕ, ◌+◌, ◌*◌}
use Rattle.block.specs.Block.{id_at}
use native.Mathlib.Omega.{arith}
use Rattle.block.proofs.id_at.Goals as goal

pub returns-then-w-eq2 : goal.returns-then-w-eq2
unfolding id_at
returns-then-w-eq2 c =
    record {
      value = rw (c.load_u16.ensures, c.element-p.ensures.value, c.if-w-eq2.true);
      upper_bound = omega arith;
    }

pub returns-else-w-eq2 : goal.returns-else-w-eq2
unfolding id_at
returns-else-w-eq2 c =
    let four = not_two c.requires.elements_inside.width c.if-w-eq2.false in
    let place = c.args.at + c.args.k * (c.args.w + 8) in
    record {
      value = rw (c.load_u32.ensures, c.element-p.ensures.value) (ap (λ (v : ℕ). number v c.args.file.now place) (sym four));
      upper_bound = omega arith;
    }
