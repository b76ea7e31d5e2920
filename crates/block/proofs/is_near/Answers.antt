-- Only the last test can say so: the key is not below one id, and below another.
use Rattle.block.specs.Block.{id_at}
use Rattle.range.proofs.Tests.{both}
use Rattle.seq.proofs.Search.{window_between}
use mathlib.Core.Bool.{true≢false}
use mathlib.Core.Path.{sym}
use native.Mathlib.Omega.{arith}
use borrow.Author.Tests.{leb-true, ltb-true}
use lib.Dec.{leb, ltb}
use Rattle.block.proofs.is_near.Goals as goal

pub returns-then-n-hint : goal.returns-then-n-hint
returns-then-n-hint c e =
    absurd (true≢false (sym e))

pub returns-then-n-hint-le8 : goal.returns-then-n-hint-le8
returns-then-n-hint-le8 c e =
    absurd (true≢false (sym e))

pub id_at-last-requires : goal.id_at-last-requires
id_at-last-requires c =
    record {
      elements_inside = c.requires.elements_inside;
      k_lt_n = omega (arith, c.if-n-hint.false, c.if-n-hint-le8.false);
    }

pub returns : goal.returns
returns c e =
    let tests = (both (leb c.id_at-first.result c.args.key) (ltb c.args.key c.id_at-last.result)).0 e in
    let from = leb-true c.id_at-first.result c.args.key tests.0 in
    let to = ltb-true c.args.key c.id_at-last.result tests.1 in (
      omega (arith, to, c.id_at-last.ensures.upper_bound),
      window_between (id_at c.args.w c.args.file.now c.args.at) c.args.n c.args.key c.args.hint 8 c.requires.sorted (omega arith)
          (omega (arith, c.if-n-hint.false, c.if-n-hint-le8.false))
          (omega (arith, from, c.id_at-first.ensures.value)) (omega (arith, to, c.id_at-last.ensures.value)),
    )
