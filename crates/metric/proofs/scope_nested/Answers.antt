-- By the metric; its scopes lie in the section, which lies in the file.
use mathlib.Core.Path.{◌∙◌}
use Rattle.refusal.proofs.Checks.{handed_on}
use Rattle.refusal.specs.Check.{on_answer}
use Rattle.metric.proofs.Inner.{nested_bounded}
use Rattle.open.specs.Opening.{field}
use native.Mathlib.Omega.{arith}
use Rattle.metric.proofs.scope_nested.Goals as goal

pub nested_at-requires : goal.nested_at-requires
nested_at-requires c =
    rw c.in_ok-metric.was at c.metric_nested.ensures.bounded_in

pub returns : goal.returns
unfolding on_answer field
returns c =
    record {
      value = rw (c.nested_at.ensures, c.u8_at-stride.ensures, ← c.metric_nested.ensures.value, c.in_ok-metric.was);
      bounded_in = nested_bounded c.args.file.now (omega arith) c.requires _ _ _ c.nested_at.ensures;
    }

pub returns-in_err-metric : goal.returns-in_err-metric
unfolding on_answer
returns-in_err-metric c =
    let e = handed_on c.from_residual.ensures.1 in
    record { value = e ∙ rw (← c.in_err-metric.ensures.value); bounded_in = rw e tt }
