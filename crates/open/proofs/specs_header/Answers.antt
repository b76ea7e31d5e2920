-- The fields read, then the two rules; a single stride is all of them.
use Rattle.open.specs.Opening.{header_rule, stride_rules, content_rule, field, number_at}
use native.Mathlib.Nat.{add-zero}
use mathlib.Core.Bool.{and-true}
use Rattle.open.proofs.specs_header.Goals as goal

pub returns : goal.returns
unfolding header_rule stride_rules content_rule field number_at
returns c =
    rw (
      c.strides_then_array.ensures,
      c.array_rule-array.ensures,
      c.stride_rule-strides.ensures,
      c.load_u16-stride.ensures,
      c.load_u32-count.ensures,
      c.load_u64-place.ensures,
      and-true,
      add-zero,
    )
