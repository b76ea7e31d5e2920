-- The key, if it is anywhere, is among the `left` ids from `low` on.
use Rattle.block.specs.Block.{id_at}
use Rattle.block.proofs.Steps.{at_most}
use Rattle.seq.proofs.Search.{window_step, window_end, position_none, position_at}
use Prim.Native.Nat.{◌/◌}
use mathlib.Core.Path.{refl, sym, ◌∙◌}
use native.Mathlib.Omega.{arith}
use Rattle.block.proofs.halve.Goals as goal

pub loop-left-init : goal.loop-left-init
loop-left-init c =
    c.requires.window

pub overflow_add-low : goal.overflow_add-low
overflow_add-low c =
    omega (arith, c.loop-left.invariant.fits, c.ranges.n)

pub overflow_sub-low : goal.overflow_sub-low
overflow_sub-low c =
    omega arith

pub id_at-id-requires : goal.id_at-id-requires
id_at-id-requires c =
    record {
      elements_inside = c.requires.elements_inside;
      k_lt_n = omega (arith, c.loop-left.invariant.fits);
    }

pub skipped-low-requires : goal.skipped-low-requires
skipped-low-requires c =
    record {
      id_bound = c.id_at-id.ensures.upper_bound;
      key_bound = c.requires.key_bound;
    }

pub overflow_add-low-in-loop-left : goal.overflow_add-low-in-loop-left
overflow_add-low-in-loop-left c =
    omega (arith, c.loop-left.invariant.fits, c.ranges.n, at_most c.skipped-low.ensures)

pub loop-left-preserved : goal.loop-left-preserved
loop-left-preserved c =
    window_step c.requires.sorted c.loop-left.invariant c.loop-left-test.true (c.loop-left.left / 2) c.skipped-low.result refl
    (λ h. c.skipped-low.ensures.0 (rw c.id_at-id.ensures.value h))
    (λ h. c.skipped-low.ensures.1 (rw c.id_at-id.ensures.value h))

pub id_at-requires : goal.id_at-requires
id_at-requires c =
    record {
      elements_inside = c.requires.elements_inside;
      k_lt_n = omega (arith, c.loop-left.invariant.fits, c.loop-left.invariant.some);
    }

pub returns-then-id_at-key : goal.returns-then-id_at-key
returns-then-id_at-key c =
    sym
    (position_at (id_at c.args.w c.args.file.now c.args.at) c.args.key c.args.n c.requires.sorted c.loop-left.low
    (omega (arith, c.loop-left.invariant.fits, c.loop-left.invariant.some))
    (sym c.id_at.ensures.value ∙ c.if-id_at-key.true))

pub returns-else-id_at-key : goal.returns-else-id_at-key
returns-else-id_at-key c =
    sym
    (position_none (id_at c.args.w c.args.file.now c.args.at) c.args.key c.args.n
    (window_end c.loop-left.invariant c.loop-left-test.false (λ e. c.if-id_at-key.false (c.id_at.ensures.value ∙ e))))
