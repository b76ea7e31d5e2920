-- The tests in their order; a path is no longer than marks are deep.
use native.Mathlib.Numerals.{add-one}
use native.Mathlib.Omega.{arith}
use borrow.Author.Tests.{lt-ltb, le-ltb, ltb-true}
use lib.Dec.{eqb, ltb}
use Rattle.refusal.specs.Check.{either}
use Rattle.range.proofs.Tests.{both}
use Rattle.mark.proofs.Bytes.{decoded_shallow}
use Rattle.seek.specs.Seek.{stepped}
use Rattle.seek.proofs.step.Goals as goal

pub returns-then-seek-up : goal.returns-then-seek-up
unfolding stepped either
returns-then-seek-up c =
    rw (lt-ltb c.args.seek.matched c.args.up c.if-seek-up.true)

pub overflow_add-result : goal.overflow_add-result
overflow_add-result c =
    omega (arith, c.if-seek-up.false, c.requires.matched_in_bounds, decoded_shallow c.args.mark.now)

pub returns-then-seek-up-2 : goal.returns-then-seek-up-2
unfolding stepped either
returns-then-seek-up-2 c =
    rw (le-ltb c.args.seek.matched c.args.up (omega (arith, c.if-seek-up.false)), ← c.number_at-number.ensures, c.if-seek-up-2.true, ← add-one c.args.up)

pub overflow_add-result-then-seek-up-3 : goal.overflow_add-result-then-seek-up-3
overflow_add-result-then-seek-up-3 c =
    omega (arith, ltb-true c.args.seek.seen c.number_at-number.result ((both (eqb c.args.seek.matched c.args.up) (ltb c.args.seek.seen c.number_at-number.result)).0 c.if-seek-up-3.true).1)

pub returns-then-seek-up-3 : goal.returns-then-seek-up-3
unfolding stepped either
returns-then-seek-up-3 c =
    rw (
      le-ltb c.args.seek.matched c.args.up (omega (arith, c.if-seek-up.false)),
      ← c.number_at-number.ensures,
      c.if-seek-up-2.false,
      c.if-seek-up-3.true,
      ← add-one c.args.seek.seen,
    )

pub returns : goal.returns
unfolding stepped either
returns c =
    rw (
      le-ltb c.args.seek.matched c.args.up (omega (arith, c.if-seek-up.false)),
      ← c.number_at-number.ensures,
      c.if-seek-up-2.false,
      c.if-seek-up-3.false,
      ← add-one c.number_at-number.result,
    )
