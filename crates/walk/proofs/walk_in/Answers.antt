-- From the roots, if there are any.
use Rattle.context.specs.Sound.{targets_in}
use Rattle.visit.proofs.Lie.{roots_lie}
use Rattle.walk.proofs.Roots.{no_roots, from-roots}
use native.Mathlib.Omega.{arith}
use Rattle.walk.proofs.walk_in.Goals as goal

pub returns-then-bytes-eq0 : goal.returns-then-bytes-eq0
returns-then-bytes-eq0 c =
    no_roots c.args.file.now c.requires (targets_in c.targets_of-targets.result)
    c.targets_of-targets.ensures c.u64_at-place.result c.u64_at-bytes.result c.u64_at-place.ensures c.u64_at-bytes.ensures
    c.args.listing.now c.args.table.now c.args.records.now c.clear.new.out c.clear.ensures c.if-bytes-eq0.true

pub overflow_add-end : goal.overflow_add-end
overflow_add-end c =
    omega (
      arith,
      roots_lie c.args.file.now c.requires (targets_in c.targets_of-targets.result)
          c.targets_of-targets.ensures c.u64_at-place.result c.u64_at-bytes.result c.u64_at-place.ensures c.u64_at-bytes.ensures (omega (arith, c.if-bytes-eq0.false)),
      c.well_formed,
    )

pub array-requires : goal.array-requires
array-requires c =
    let lie = roots_lie c.args.file.now c.requires (targets_in c.targets_of-targets.result)
    c.targets_of-targets.ensures c.u64_at-place.result c.u64_at-bytes.result c.u64_at-place.ensures c.u64_at-bytes.ensures (omega (arith, c.if-bytes-eq0.false)) in
    (lie.0, lie.1, lie.2, omega arith)

pub returns : goal.returns
returns c =
    from-roots c.args.file.now c.requires (targets_in c.targets_of-targets.result)
    c.targets_of-targets.ensures c.u64_at-place.result c.u64_at-bytes.result c.u64_at-place.ensures c.u64_at-bytes.ensures
    c.args.listing.now c.args.table.now c.args.records.now c.clear.new.out c.clear.ensures c.array.result
    c.array.new.listing c.array.new.table c.array.new.records c.array.ensures
