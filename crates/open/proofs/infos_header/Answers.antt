-- The fields read, then the two rules; a single stride is all of them.
use Rattle.open.specs.Opening.{header_rule, stride_rules, content_rule, field, number_at}
use Rattle.refusal.specs.declared.Refusal.TheVariants as No
use Rattle.refusal.proofs.Checks.{rule_passes, rule_broken, after_passed, after_refused}
use mathlib.Core.Bool.{and-true}
use native.Mathlib.Nat.{add-zero}
use Rattle.open.proofs.infos_header.Goals as goal

pub returns-then-not-stride_rule : goal.returns-then-not-stride_rule
unfolding header_rule stride_rules content_rule field number_at
returns-then-not-stride_rule c =
    after_refused _ (rule_broken No.Stride (rw (and-true, ← c.load_u8-stride.ensures, ← c.stride_rule.ensures) (c.if-not-stride_rule.true)))

pub returns : goal.returns
unfolding header_rule stride_rules content_rule field number_at
returns c =
    after_passed ((rule_passes _ No.Stride).1 (rw (and-true, ← c.load_u8-stride.ensures, ← c.stride_rule.ensures) (c.if-not-stride_rule.false)))
    (rw (c.rule.ensures, c.array_rule-array.ensures, c.load_u8-stride.ensures, c.load_u32-count.ensures, c.load_u64-place.ensures, add-zero))
