-- Both sections keep 5, or that is the refusal; IdTuples has no header.
use Rattle.open.specs.Opening.{in_order, header_check, place_in, size_in}
use Rattle.open.proofs.Answer.{no_header}
use Rattle.open.proofs.Stages.{kept_header, two_rules, kept, broken}
use Rattle.range.proofs.Tests.{both}
use Rattle.refusal.proofs.Checks.{after_passed, first_passed}
use mathlib.Core.Path.{sym, ◌∙◌}
use native.Mathlib.Omega.{arith}
use Rattle.open.proofs.profile_rules.Goals as goal

pub infos_header-requires : goal.infos_header-requires
infos_header-requires c =
    kept_header 48 c.args.file.now 13 8 (place_in c.args.s 0) (size_in c.args.s 0) (sym c.section_rule-infos.ensures ∙ ((both _ _).0 c.if-infos-tuples.true).0) (omega arith)

pub returns-then-infos-tuples : goal.returns-then-infos-tuples
unfolding in_order header_check
returns-then-infos-tuples c =
    let e = rw (c.section_rule-infos.ensures, c.section_rule-tuples.ensures) at c.if-infos-tuples.true in
    after_passed (kept (two_rules _ _) e) (c.infos_header.ensures ∙ simp (no_header, first_passed))

pub returns : goal.returns
returns c =
    let e = rw (c.section_rule-infos.ensures, c.section_rule-tuples.ensures) at c.if-infos-tuples.false in
    broken (two_rules _ _) _ e
