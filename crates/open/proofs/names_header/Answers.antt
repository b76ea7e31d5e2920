-- The fields read, then the array's rule; there are no strides.
use Rattle.open.specs.Opening.{header_rule, stride_rules, content_rule, field, number_at}
use Rattle.refusal.proofs.Checks.{rule_holds, passed_first}
use native.Mathlib.Nat.{add-zero}
use Rattle.open.proofs.names_header.Goals as goal

pub returns : goal.returns
unfolding header_rule stride_rules content_rule field number_at
returns c =
    rw (c.rule.ensures, c.array_rule.ensures, c.load_u8-count.ensures, c.load_u64-place.ensures, rule_holds, passed_first, add-zero)
