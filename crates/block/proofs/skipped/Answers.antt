-- The quotient is 1 or 0.
use Rattle.block.proofs.Steps.{quotient_takes, at_most}
use native.Mathlib.Omega.{arith}
use Rattle.block.proofs.skipped.Goals as goal

pub overflow_mul-result : goal.overflow_mul-result
overflow_mul-result c =
    let l = at_most (quotient_takes c.args.id c.args.key c.args.half c.requires.id_bound c.requires.key_bound) in
    record { fits = omega (arith, l, c.ranges.half) }

pub returns : goal.returns
returns c =
    quotient_takes _ _ _ c.requires.id_bound c.requires.key_bound
