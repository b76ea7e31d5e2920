-- By whether the file is long enough, and has the magic.
use Rattle.open.proofs.Stages.{too_short, long_enough}
use Rattle.refusal.specs.declared.Refusal.TheVariants as No
use Rattle.refusal.proofs.Checks.{rule_passes, rule_broken, after_passed, after_refused}
use mathlib.Core.Path.{sym, ◌∙◌}
use Rattle.open.proofs.head.Goals as goal

pub returns-then-file-header : goal.returns-then-file-header
returns-then-file-header c =
    too_short _ _ _ c.if-file-header.true

pub returns-then-not-has_fourteen : goal.returns-then-not-has_fourteen
returns-then-not-has_fourteen c =
    long_enough _ _ _ c.if-file-header.false (after_refused _ (rule_broken No.Magic (sym c.has_fourteen.ensures ∙ c.if-not-has_fourteen.true)))

pub returns : goal.returns
returns c =
    long_enough _ _ _ c.if-file-header.false
    (after_passed ((rule_passes _ No.Magic).1 (sym c.has_fourteen.ensures ∙ c.if-not-has_fourteen.false)) (rw (c.rule.ensures, c.load_u8.ensures)))
