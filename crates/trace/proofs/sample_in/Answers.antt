-- By whether it is there.
use Rattle.trace.specs.Trace.{sample_in}
use Rattle.refusal.specs.Check.{rule, on_answer}
use borrow.Author.Tests.{lt-ltb, le-ltb}
use Rattle.trace.proofs.sample_in.Goals as goal

pub returns-then-samples-k : goal.returns-then-samples-k
unfolding sample_in rule on_answer
returns-then-samples-k c =
    rw (le-ltb c.args.k c.args.samples c.if-samples-k.true)

pub returns : goal.returns
unfolding sample_in rule on_answer
returns c =
    rw (c.sample_of.ensures, lt-ltb c.args.k c.args.samples c.if-samples-k.false)
