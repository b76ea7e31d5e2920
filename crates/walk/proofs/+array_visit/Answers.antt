-- An array and a context, each by the other: the loop keeps `Going`, a context's checks decide what it does, and the number that
-- falls combines levels left and bytes left.
use Prim.Native.Nat.{suc, ◌*◌, ◌^◌, ◌-◌, ◌<◌}
use mathlib.Core.Path.{refl, sym, ◌∙◌}
use native.Mathlib.Omega.{arith}
use lib.ListN.{length-set}
use Rattle.open.specs.Opening.{field}
use Rattle.context.specs.Context.{children_place, children_bytes}
use Rattle.context.specs.Sound.{targets_in}
use Rattle.context.proofs.Laws.{ends, readable}
use Rattle.context.proofs.Siblings.{takes_some}
use Rattle.traversal.specs.Traversal.{depth_limit}
use Rattle.traversal.specs.Walk.{slices}
use Rattle.walk.proofs.Going.{going_start, going_10, going_end, going_next, going_stop}
use Rattle.visit.proofs.Checks.{id_read, place_read, bytes_read, safe}
use Rattle.walk.proofs.Visits.{does_refused, does_cut, does_leaf, does_deep}
use Rattle.walk.proofs.Measure.{falls_in, falls_down}
use Rattle.walk.proofs.+array_visit.Goals as goal

pub array-loop-p-init : goal.array-loop-p-init
array-loop-p-init t c = (
  omega arith,
  refl,
  refl,
  refl,
  λ was l ups d h. going_start c.args.file.now (targets_in c.args.targets.now) c.args.depth c.args.at c.args.stop was l c.args.parent ups _ _ h,
)

pub array-context_rule-requires : goal.array-context_rule-requires
array-context_rule-requires t c =
    omega (arith, c.loop-p-test.true, c.requires)

pub array-shape_of-listing-then-not-context_rule : goal.array-shape_of-listing-then-not-context_rule
array-shape_of-listing-then-not-context_rule t c =
    c.loop-p.invariant.1

pub array-shape_of-table-then-not-context_rule : goal.array-shape_of-table-then-not-context_rule
array-shape_of-table-then-not-context_rule t c =
    c.loop-p.invariant.2

pub array-shape_of-records-then-not-context_rule : goal.array-shape_of-records-then-not-context_rule
array-shape_of-records-then-not-context_rule t c =
    c.loop-p.invariant.3

pub array-returns-then-not-context_rule : goal.array-returns-then-not-context_rule
array-returns-then-not-context_rule t c =
    let so = slices c.loop-p.listing c.loop-p.table c.loop-p.records in
    let broken = sym c.context_rule.ensures ∙ c.if-not-context_rule.true in
    λ was l ups d h. going_10 c.args.file.now (targets_in c.args.targets.now) c.args.depth c.args.at c.args.stop was l c.args.parent ups so c.loop-p.p c.loop-p.n
    c.loop-p-test.true (c.loop-p.invariant.4 was l ups d h) broken

pub array-visit-walked-requires : goal.array-visit-walked-requires
array-visit-walked-requires t c =
    let fine = sym c.context_rule.ensures ∙ c.if-not-context_rule.false in
    let falls = falls_in ((suc depth_limit - c.args.depth) * 2 ^ 64) c.args.at c.loop-p.p c.args.stop t c.decreases c.loop-p.invariant.0 in
    (falls, (omega (arith, c.loop-p.invariant.0, c.requires), fine, omega (arith, c.requires), omega (arith, c.requires), omega (arith, c.requires)))

pub array-shape_of-listing-in_default : goal.array-shape_of-listing-in_default
array-shape_of-listing-in_default t c =
    c.visit-walked.auto.listing ∙ c.loop-p.invariant.1

pub array-shape_of-table-in_default : goal.array-shape_of-table-in_default
array-shape_of-table-in_default t c =
    c.visit-walked.auto.table ∙ c.loop-p.invariant.2

pub array-shape_of-records-in_default : goal.array-shape_of-records-in_default
array-shape_of-records-in_default t c =
    c.visit-walked.auto.records ∙ c.loop-p.invariant.3

pub array-returns-in_default : goal.array-returns-in_default
array-returns-in_default t c =
    let so = slices c.loop-p.listing c.loop-p.table c.loop-p.records in
    let after = slices c.visit-walked.new.listing c.visit-walked.new.table c.visit-walked.new.records in
    λ was l ups d h. going_stop c.args.file.now (targets_in c.args.targets.now) c.args.depth c.args.at c.args.stop was l c.args.parent ups so c.loop-p.p
    c.loop-p.n c.loop-p-test.true (c.loop-p.invariant.4 was l ups d h) d c.visit-walked.result after c.visit-walked.ensures c.in_default.not-Complete

pub array-extent-p-requires : goal.array-extent-p-requires
array-extent-p-requires t c =
    let fine = sym c.context_rule.ensures ∙ c.if-not-context_rule.false in
    let ended = ends c.args.file.now c.loop-p.p c.args.stop fine in
    omega (arith, ended, c.requires)

pub array-overflow_add-p : goal.array-overflow_add-p
array-overflow_add-p t c =
    let fine = sym c.context_rule.ensures ∙ c.if-not-context_rule.false in
    let ended = ends c.args.file.now c.loop-p.p c.args.stop fine in
    omega (arith, ended, c.extent-p.ensures, c.requires)

pub array-loop-p-smaller : goal.array-loop-p-smaller
array-loop-p-smaller t c =
    omega (arith, c.extent-p.ensures, takes_some c.args.file.now c.loop-p.p, c.loop-p-test.true)

pub array-loop-p-preserved : goal.array-loop-p-preserved
array-loop-p-preserved t c =
    let so = slices c.loop-p.listing c.loop-p.table c.loop-p.records in
    let after = slices c.visit-walked.new.listing c.visit-walked.new.table c.visit-walked.new.records in (
      omega (arith, c.loop-p.invariant.0),
      c.visit-walked.auto.listing ∙ c.loop-p.invariant.1,
      c.visit-walked.auto.table ∙ c.loop-p.invariant.2,
      c.visit-walked.auto.records ∙ c.loop-p.invariant.3,
      λ was l ups d h. going_next c.args.file.now (targets_in c.args.targets.now) c.args.depth c.args.at c.args.stop was l c.args.parent ups so c.loop-p.p
          c.loop-p.n c.loop-p-test.true (c.loop-p.invariant.4 was l ups d h) d c.visit-walked.result after c.visit-walked.ensures c.extent-p.result c.in-Complete.k c.in-Complete.is
          c.extent-p.ensures,
    )

pub array-shape_of-listing : goal.array-shape_of-listing
array-shape_of-listing t c =
    c.loop-p.invariant.1

pub array-shape_of-table : goal.array-shape_of-table
array-shape_of-table t c =
    c.loop-p.invariant.2

pub array-shape_of-records : goal.array-shape_of-records
array-shape_of-records t c =
    c.loop-p.invariant.3

pub array-returns : goal.array-returns
array-returns t c =
    let so = slices c.loop-p.listing c.loop-p.table c.loop-p.records in
    λ was l ups d h. going_end c.args.file.now (targets_in c.args.targets.now) c.args.depth c.args.at c.args.stop was l c.args.parent ups so c.loop-p.p c.loop-p.n
    c.loop-p-test.false (c.loop-p.invariant.4 was l ups d h)

pub visit-visit_check-check-requires : goal.visit-visit_check-check-requires
visit-visit_check-check-requires t c =
    readable c.args.file.now c.args.p c.args.stop c.requires.1 c.requires.2

pub visit-returns-in-Err : goal.visit-returns-in-Err
visit-returns-in-Err t c =
    let t0 = targets_in c.args.targets.now in
    let s = slices c.args.listing.now c.args.table.now c.args.records.now in
    does_refused c.args.file.now t0 c.args.depth c.args.parent c.args.p c.args.stop c.args.n s c.requires.1
    c.visit_check-check.result c.in-Err.r c.visit_check-check.ensures c.in-Err.is

pub visit-returns-then-listing-n : goal.visit-returns-then-listing-n
visit-returns-then-listing-n t c =
    let t0 = targets_in c.args.targets.now in
    let s = slices c.args.listing.now c.args.table.now c.args.records.now in
    does_cut c.args.file.now t0 c.args.depth c.args.parent c.args.p c.args.stop c.args.n s c.requires.1
    c.visit_check-check.result c.visit_check-check.ensures c.in_default.is c.if-listing-n.true

pub visit-overflow_add-p : goal.visit-overflow_add-p
visit-overflow_add-p t c =
    let ended = ends c.args.file.now c.args.p c.args.stop c.requires.1 in
    omega (arith, ended, c.requires.2)

pub visit-load_u32-id-requires : goal.visit-load_u32-id-requires
visit-load_u32-id-requires t c =
    let ended = ends c.args.file.now c.args.p c.args.stop c.requires.1 in
    omega (arith, ended, c.requires.2)

pub visit-bounds-listing-n : goal.visit-bounds-listing-n
visit-bounds-listing-n t c =
    omega (arith, c.if-listing-n.false)

pub visit-bounds-table-id : goal.visit-bounds-table-id
visit-bounds-table-id t c =
    let t0 = targets_in c.args.targets.now in
    let s = slices c.args.listing.now c.args.table.now c.args.records.now in
    let kept = safe c.args.file.now t0 c.args.depth c.args.p s.table (sym c.visit_check-check.ensures ∙ c.in_default.is) in
    let id = id_read c.args.file.now c.args.p c.load_u32-id.result c.load_u32-id.ensures in
    omega (arith, kept.slot, id)

pub visit-put_record-requires : goal.visit-put_record-requires
visit-put_record-requires t c =
    readable c.args.file.now c.args.p c.args.stop c.requires.1 c.requires.2

pub visit-load_u64-bytes-requires : goal.visit-load_u64-bytes-requires
visit-load_u64-bytes-requires t c =
    let ended = ends c.args.file.now c.args.p c.args.stop c.requires.1 in
    omega (arith, ended, c.requires.2)

pub visit-overflow_add-result : goal.visit-overflow_add-result
visit-overflow_add-result t c =
    omega (arith, c.if-listing-n.false)

pub visit-returns-then-bytes-eq0 : goal.visit-returns-then-bytes-eq0
visit-returns-then-bytes-eq0 t c =
    let t0 = targets_in c.args.targets.now in
    let s = slices c.args.listing.now c.args.table.now c.args.records.now in
    let id = id_read c.args.file.now c.args.p c.load_u32-id.result c.load_u32-id.ensures in
    let size = bytes_read c.args.file.now c.args.p c.load_u64-bytes.result c.load_u64-bytes.ensures in
    does_leaf c.args.file.now t0 c.args.depth c.args.parent c.args.p c.args.stop c.args.n s c.requires.1
    c.visit_check-check.result c.visit_check-check.ensures c.in_default.is
    c.put_record.new.records c.put_record.ensures c.load_u32-id.result (field c.args.file.now c.args.p children_place) c.load_u64-bytes.result
    id refl size (omega (arith, c.if-listing-n.false)) c.requires.0 c.if-bytes-eq0.true

pub visit-overflow_add-p-2 : goal.visit-overflow_add-p-2
visit-overflow_add-p-2 t c =
    let ended = ends c.args.file.now c.args.p c.args.stop c.requires.1 in
    omega (arith, ended, c.requires.2)

pub visit-load_u64-place-requires : goal.visit-load_u64-place-requires
visit-load_u64-place-requires t c =
    let ended = ends c.args.file.now c.args.p c.args.stop c.requires.1 in
    omega (arith, ended, c.requires.2)

pub visit-overflow_add-end : goal.visit-overflow_add-end
visit-overflow_add-end t c =
    let t0 = targets_in c.args.targets.now in
    let s = slices c.args.listing.now c.args.table.now c.args.records.now in
    let kept = safe c.args.file.now t0 c.args.depth c.args.p s.table (sym c.visit_check-check.ensures ∙ c.in_default.is) in
    let size = bytes_read c.args.file.now c.args.p c.load_u64-bytes.result c.load_u64-bytes.ensures in
    let place = place_read c.args.file.now c.args.p c.load_u64-place.result c.load_u64-place.ensures in
    let some : 0 < field c.args.file.now c.args.p children_bytes = omega (arith, c.if-bytes-eq0.false, size) in
    omega (arith, kept.children.inside some, size, place, c.requires.3)

pub visit-overflow_add-depth : goal.visit-overflow_add-depth
visit-overflow_add-depth t c =
    omega (arith, c.requires.4)

pub visit-overflow_add-n : goal.visit-overflow_add-n
visit-overflow_add-n t c =
    omega (arith, c.if-listing-n.false)

pub visit-array-requires : goal.visit-array-requires
visit-array-requires t c =
    let t0 = targets_in c.args.targets.now in
    let s = slices c.args.listing.now c.args.table.now c.args.records.now in
    let kept = safe c.args.file.now t0 c.args.depth c.args.p s.table (sym c.visit_check-check.ensures ∙ c.in_default.is) in
    let ended = ends c.args.file.now c.args.p c.args.stop c.requires.1 in
    let size = bytes_read c.args.file.now c.args.p c.load_u64-bytes.result c.load_u64-bytes.ensures in
    let place = place_read c.args.file.now c.args.p c.load_u64-place.result c.load_u64-place.ensures in
    let some : 0 < field c.args.file.now c.args.p children_bytes = omega (arith, c.if-bytes-eq0.false, size) in
    let falls = falls_down (2 ^ 64) 201 c.args.depth c.load_u64-place.result c.load_u64-bytes.result c.args.p c.args.stop t c.decreases
    (omega (arith, kept.shallow)) (omega arith) (omega (arith, ended)) in (
      falls,
      (
        omega (arith, kept.children.after some, place),
        omega (arith, kept.children.inside some, size, place, c.requires.3),
        c.requires.3,
        omega
            (arith, kept.shallow),
      ),
    )

pub visit-shape_of-listing : goal.visit-shape_of-listing
visit-shape_of-listing t c =
    c.array.auto.listing ∙ length-set c.args.listing.now c.args.n c.args.p

pub visit-shape_of-table : goal.visit-shape_of-table
visit-shape_of-table t c =
    c.array.auto.table ∙ length-set c.args.table.now c.load_u32-id.result c.args.p

pub visit-returns : goal.visit-returns
visit-returns t c =
    let t0 = targets_in c.args.targets.now in
    let s = slices c.args.listing.now c.args.table.now c.args.records.now in
    let id = id_read c.args.file.now c.args.p c.load_u32-id.result c.load_u32-id.ensures in
    let size = bytes_read c.args.file.now c.args.p c.load_u64-bytes.result c.load_u64-bytes.ensures in
    let place = place_read c.args.file.now c.args.p c.load_u64-place.result c.load_u64-place.ensures in
    let after = slices c.array.new.listing c.array.new.table c.array.new.records in
    does_deep c.args.file.now t0 c.args.depth c.args.parent c.args.p c.args.stop c.args.n s c.requires.1
    c.visit_check-check.result c.visit_check-check.ensures c.in_default.is
    c.put_record.new.records c.put_record.ensures c.load_u32-id.result c.load_u64-place.result c.load_u64-bytes.result
    id place size (omega (arith, c.if-listing-n.false)) c.requires.0 c.array.result after c.array.ensures
