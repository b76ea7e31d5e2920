-- The metrics lie in the file, which opens.
use Rattle.array.proofs.Bounds.{header_in, bounded}
use native.Mathlib.Omega.{arith}
use Rattle.open.specs.Format.{meta}
use Rattle.open.specs.Names as Section
use Rattle.open.specs.Opening.{field}
use Rattle.metric.proofs.Inner.{nested_bounded}
use Rattle.metric.proofs.metric_nested.Goals as goal

pub of_infos-metrics-requires : goal.of_infos-metrics-requires
of_infos-metrics-requires c =
    omega (arith, header_in meta c.args.file.now c.requires Section.metrics (omega arith))

pub nested_at-requires : goal.nested_at-requires
nested_at-requires c =
    bounded meta c.args.file.now (omega arith) c.requires Section.metrics (omega arith) c.of_infos-metrics.ensures

pub returns : goal.returns
unfolding field
returns c =
    record {
      value = rw (c.nested_at.ensures, c.of_infos-metrics.ensures, c.u8_at-stride.ensures);
      bounded_in = nested_bounded c.args.file.now (omega arith) c.requires _ _ _ c.nested_at.ensures;
    }
