-- The fields read, then the two rules.
use Rattle.open.specs.Opening.{header_rule, stride_rules, content_rule, field, number_at}
use native.Mathlib.Nat.{add-zero}
use mathlib.Core.Bool.{and-true}
use Rattle.open.proofs.metrics_header.Goals as goal

pub returns : goal.returns
unfolding header_rule stride_rules content_rule field number_at
returns c =
    rw (
      c.strides_then_array.ensures,
      c.array_rule-array.ensures,
      c.stride_rule-3.ensures,
      c.stride_rule-2.ensures,
      c.stride_rule.ensures,
      c.load_u8-summary.ensures,
      c.load_u8-scope.ensures,
      c.load_u8-metric.ensures,
      c.load_u32-count.ensures,
      c.load_u64-place.ensures,
      and-true,
      add-zero,
    )
