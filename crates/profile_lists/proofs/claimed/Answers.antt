-- The total is what the tuples passed claim, and at most `most`.
use mathlib.Core.Path.{sym}
use native.Mathlib.Omega.{arith}
use lib.ListN.{length}
use Rattle.seq.proofs.Sum.{sum_none, sum_more, sum_ends}
use Rattle.profile_lists.specs.Lists.{word_of}
use Rattle.profile_lists.proofs.claimed.Goals as goal

pub loop-size-init : goal.loop-size-init
loop-size-init c =
    (sym (sum_none (word_of c.args.tuples.now)), omega arith)

pub returns-then-size-most : goal.returns-then-size-most
returns-then-size-most c =
    omega (arith, sum_ends (word_of c.args.tuples.now) c.loop-size.size-index (length c.args.tuples.now) c.loop-size-test.true)

pub loop-size-preserved : goal.loop-size-preserved
loop-size-preserved c =
    (omega (arith, sum_more (word_of c.args.tuples.now) c.loop-size.size-index), omega arith)
