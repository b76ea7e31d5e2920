-- The numbers stand one after the other behind the depth, inside the mark.
use mathlib.Core.Path.{sym, ◌∙◌}
use native.Mathlib.Omega.{arith}
use Rattle.mark.proofs.Bytes.{named_path}
use Rattle.mark.proofs.number_at.Goals as goal

pub overflow_mul-k : goal.overflow_mul-k
overflow_mul-k c =
    let p = named_path c.args.mark.now c.requires.mark_value c.requires.k_in_bounds in omega (arith, p.shallow, c.requires.k_in_bounds)

pub overflow_add-k : goal.overflow_add-k
overflow_add-k c =
    let p = named_path c.args.mark.now c.requires.mark_value c.requires.k_in_bounds in omega (arith, p.shallow, c.requires.k_in_bounds)

pub load_u32-requires : goal.load_u32-requires
load_u32-requires c =
    let p = named_path c.args.mark.now c.requires.mark_value c.requires.k_in_bounds in omega (arith, p.long, c.requires.k_in_bounds)

pub returns : goal.returns
returns c =
    let p = named_path c.args.mark.now c.requires.mark_value c.requires.k_in_bounds in
    c.load_u32.ensures ∙ sym (p.number_there c.args.k c.requires.k_in_bounds)
