-- By whether it runs forwards.
use Rattle.trace.proofs.Lines.{rule_backwards, rule_start}
use mathlib.Core.Path.{sym}
use Rattle.trace.proofs.line_rule.Goals as goal

pub returns-then-end-start : goal.returns-then-end-start
returns-then-end-start c =
    sym (rule_backwards c.args.file.now _ c.args.start c.args.end c.if-end-start.true)

pub returns : goal.returns
returns c =
    rw (c.multiple.ensures, c.multiple-2.ensures, c.multiple-3.ensures, c.lies.ensures)
    (rule_start c.args.file.now _ c.args.start c.args.end c.if-end-start.false)
