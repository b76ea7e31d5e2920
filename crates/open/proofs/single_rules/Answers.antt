-- The section keeps 5, or that is the refusal.
use Rattle.open.specs.Opening.{in_order, header_check, place_in, size_in}
use Rattle.open.proofs.Stages.{kept_header, one_rule, kept, broken}
use Rattle.refusal.proofs.Checks.{after_passed, first_passed}
use mathlib.Core.Path.{sym, ◌∙◌}
use native.Mathlib.Omega.{arith}
use Rattle.open.proofs.single_rules.Goals as goal

pub infos_header-requires : goal.infos_header-requires
infos_header-requires c =
    kept_header 32 c.args.file.now 13 8 (place_in c.args.s 0) (size_in c.args.s 0) (sym c.section_rule.ensures ∙ c.if-section_rule.true) (omega arith)

pub returns-then-section_rule : goal.returns-then-section_rule
unfolding in_order header_check
returns-then-section_rule c =
    after_passed (kept (one_rule _ _ _) (sym c.section_rule.ensures ∙ c.if-section_rule.true)) (c.infos_header.ensures ∙ simp first_passed)

pub returns : goal.returns
returns c =
    broken (one_rule _ _ _) _ (sym c.section_rule.ensures ∙ c.if-section_rule.false)
