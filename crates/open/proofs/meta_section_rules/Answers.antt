-- Section by section, in header order, with one refusal for all.
use Rattle.open.specs.Opening.{in_order, section_check}
use Rattle.refusal.proofs.Checks.{first_passed}
use Rattle.open.proofs.Stages.{and_rule}
use mathlib.Core.Path.{sym}
use Rattle.open.proofs.meta_section_rules.Goals as goal

pub returns : goal.returns
unfolding in_order section_check
returns c =
    rw (
      c.section_rule-general.ensures,
      c.section_rule-names.ensures,
      c.section_rule-metrics.ensures,
      c.section_rule-contexts.ensures,
      c.section_rule-strings.ensures,
      c.section_rule-modules.ensures,
      c.section_rule-files.ensures,
      c.section_rule-functions.ensures,
    )
    (and_rule _ _ (and_rule _ _ (and_rule _ _ (and_rule _ _ (and_rule _ _ (and_rule _ _ (and_rule _ _ (sym (first_passed _)))))))))
