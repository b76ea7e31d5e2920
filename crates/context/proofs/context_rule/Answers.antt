-- Tests of a difference for tests of a sum.
use Rattle.open.specs.Opening.{field}
use native.Mathlib.Omega.{arith}
use Rattle.context.proofs.Laws.{short, long}
use mathlib.Core.Path.{ap, ◌∙◌}
use Rattle.flex.specs.Packing
use Rattle.context.proofs.context_rule.Goals as goal

pub returns-then-stop-p-lt-FLEX : goal.returns-then-stop-p-lt-FLEX
returns-then-stop-p-lt-FLEX c =
    short _ _ _ c.requires.0 c.if-stop-p-lt-FLEX.true

pub returns : goal.returns
unfolding field
returns c =
    let needed = c.words-needed.ensures ∙ ap Packing.words c.load_u8.ensures in
    long c.args.file.now c.args.p c.args.stop c.requires.0 c.extent.result c.words-needed.result c.load_u8-held.result
    (omega (arith, c.if-stop-p-lt-FLEX.false)) c.extent.ensures needed c.load_u8-held.ensures
