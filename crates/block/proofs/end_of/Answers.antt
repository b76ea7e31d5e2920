-- By whether another sub-array follows.
use Rattle.block.proofs.Order.{inner_end, last_end}
use mathlib.Core.Path.{sym, ◌∙◌}
use Rattle.block.proofs.end_of.Goals as goal

pub returns-then-i-b : goal.returns-then-i-b
returns-then-i-b c = λ h e. c.start_of.ensures h e ∙ sym (inner_end c.args.file.now h c.args.b c.args.i c.if-i-b.true)

pub returns-else-i-b : goal.returns-else-i-b
returns-else-i-b c = λ h e. sym (last_end c.args.file.now h c.args.b c.args.i c.if-i-b.false)
