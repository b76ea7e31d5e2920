-- The fields read, then the roots' rule; there are no strides.
use Rattle.open.specs.Opening.{header_rule, stride_rules, content_rule, field, number_at}
use Rattle.refusal.proofs.Checks.{rule_holds, passed_first}
use native.Mathlib.Nat.{add-zero}
use Rattle.open.proofs.contexts_header.Goals as goal

pub returns : goal.returns
unfolding header_rule stride_rules content_rule field number_at
returns c =
    rw (c.rule.ensures, c.contexts_rule.ensures, c.load_u64-place.ensures, c.load_u64-bytes.ensures, rule_holds, passed_first, add-zero)
