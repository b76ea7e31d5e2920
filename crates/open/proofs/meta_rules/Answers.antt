-- All sections keep 5, or that is the refusal.
use Rattle.open.proofs.Stages.{kept, broken}
use Rattle.refusal.proofs.Checks.{after_passed}
use Rattle.open.proofs.meta_rules.Goals as goal

pub meta_header_checks-requires : goal.meta_header_checks-requires
meta_header_checks-requires c =
    kept c.meta_section_rules.ensures c.if-meta_section_rules.true

pub returns-then-meta_section_rules : goal.returns-then-meta_section_rules
returns-then-meta_section_rules c =
    after_passed (kept c.meta_section_rules.ensures c.if-meta_section_rules.true) c.meta_header_checks.ensures

pub returns : goal.returns
returns c =
    broken c.meta_section_rules.ensures _ c.if-meta_section_rules.false
