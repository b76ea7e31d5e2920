-- The loop keeps `Flat`: by whether the array is done, and how the visit of the next context is answered. Twice the free slots of the table
-- and the depth fall.
use Prim.Native.Nat.{ℕ, ◌-◌}
use mathlib.Core.Path.{ap, ◌∙◌}
use native.Mathlib.Omega.{arith}
use lib.Dec.{eqb}
use lib.ListN.{length, length-replicate}
use Rattle.refusal.specs.Check.{either}
use Rattle.open.specs.Opening.{field}
use Rattle.context.specs.Context.{ctx_id}
use Rattle.traversal.specs.Walk.{slices, unmarked}
use Rattle.resume.specs.declared.Cursor.{Cursor}
use Rattle.resume.proofs.Slices.{long, wide, as_many, start}
use Rattle.resume.proofs.Flat.{back_up, on_up, flat_start, inside, flat_whole, flat_pop, flat_stops, flat_goes, flat_sound, flat_on}
use Rattle.resume.proofs.Free.{fills}
use Rattle.resume.proofs.contexts.Goals as goal

pub loop-here-init : goal.loop-here-init
loop-here-init c =
    λ m b. flat_start
    (rw (c.first_mark.ensures, c.depth.ensures)
    (start _ (slices c.args.listing.now c.args.table.now c.args.records.now) c.args.table.now c.requires.table_value.0))
    (c.first_mark.ensures ∙ ap (λ (n : ℕ). either (eqb n 0) 1 0) c.depth.ensures)
    (ap length c.requires.table_value.1 ∙ length-replicate {A = ℕ} 201 0) (rw c.requires.table_value.1) c.requires.at_nonzero.0

-- ---- a visit

pub visit_answer-goes-requires : goal.visit_answer-goes-requires
visit_answer-goes-requires c =
    let flat = c.loop-here.invariant unmarked 0 in
    (omega (arith, flat.shallow), omega (arith, c.if-here.true), inside flat c.requires.at_nonzero.1)

pub shape_of-listing-in_default : goal.shape_of-listing-in_default
shape_of-listing-in_default c = long (c.loop-here.invariant unmarked 0).holds

pub shape_of-table-in_default : goal.shape_of-table-in_default
shape_of-table-in_default c = wide (c.loop-here.invariant unmarked 0).holds

pub shape_of-records-in_default : goal.shape_of-records-in_default
shape_of-records-in_default c = as_many (c.loop-here.invariant unmarked 0).holds

pub returns-in_default : goal.returns-in_default
returns-in_default c =
    λ m b. flat_stops (c.loop-here.invariant m b) c.if-here.true c.visit_answer-goes.result c.visit_answer-goes.ensures c.in_default.not-Complete

pub store_visit-requires : goal.store_visit-requires
store_visit-requires c =
    let flat = c.loop-here.invariant unmarked 0 in
    let goes =
    flat_goes flat c.if-here.true c.visit_answer-goes.result c.in-Complete.field-0 c.visit_answer-goes.ensures c.in-Complete.is in
    let sound = flat_sound flat c.if-here.true goes c.requires.at_nonzero.1 c.requires.at_nonzero.2 in
    record { p_in_bounds = sound.reads; ctx_id_in_bounds = (sound.slot, omega (arith, sound.deeper)) }

pub list_or_pass-so_far-requires : goal.list_or_pass-so_far-requires
list_or_pass-so_far-requires c =
    let flat = c.loop-here.invariant unmarked 0 in
    let goes =
    flat_goes flat c.if-here.true c.visit_answer-goes.result c.in-Complete.field-0 c.visit_answer-goes.ensures c.in-Complete.is in
    let sound = flat_sound flat c.if-here.true goes c.requires.at_nonzero.1 c.requires.at_nonzero.2 in
    record {
      readable = (sound.can, omega (arith, sound.deeper));
      mark_value = c.requires.mark_value;
      so_far_in_bounds = goes.fits;
      so_far_in_bounds_2 = λ none. (flat.seeks none).not_all;
    }

pub on_from-here-requires : goal.on_from-here-requires
on_from-here-requires c =
    let flat = c.loop-here.invariant unmarked 0 in
    let goes =
    flat_goes flat c.if-here.true c.visit_answer-goes.result c.in-Complete.field-0 c.visit_answer-goes.ensures c.in-Complete.is in
    let sound = flat_sound flat c.if-here.true goes c.requires.at_nonzero.1 c.requires.at_nonzero.2 in
    record { up_bound = omega (arith, sound.deeper); lies = sound.lies }

pub loop-here-smaller-then-here : goal.loop-here-smaller-then-here
loop-here-smaller-then-here c =
    let flat = c.loop-here.invariant unmarked 0 in
    let goes =
    flat_goes flat c.if-here.true c.visit_answer-goes.result c.in-Complete.field-0 c.visit_answer-goes.ensures c.in-Complete.is in
    let sound = flat_sound flat c.if-here.true goes c.requires.at_nonzero.1 c.requires.at_nonzero.2 in
    let here = c.loop-here.here in
    let filled = fills c.loop-here.table (field c.args.file.now here.p ctx_id) here.p sound.slot sound.fresh flat.some in
    rw c.store_visit.ensures.table_after
    (omega (arith, filled, ap (λ (h : Cursor). h.up) c.on_from-here.ensures, on_up c.args.file.now here))

pub loop-here-preserved-then-here : goal.loop-here-preserved-then-here
loop-here-preserved-then-here c =
    let flat = c.loop-here.invariant unmarked 0 in
    let goes =
    flat_goes flat c.if-here.true c.visit_answer-goes.result c.in-Complete.field-0 c.visit_answer-goes.ensures c.in-Complete.is in
    let sound = flat_sound flat c.if-here.true goes c.requires.at_nonzero.1 c.requires.at_nonzero.2 in
    λ m b. rw (
      c.list_or_pass-so_far.ensures.value,
      c.list_or_pass-so_far.ensures.listing_after,
      c.store_visit.ensures.table_after,
      c.store_visit.ensures.way_after,
      c.on_from-here.ensures,
    )
    (flat_on (c.loop-here.invariant m b) c.if-here.true goes sound.lies c.list_or_pass-so_far.new.records
    (rw c.store_visit.ensures.way_after at c.list_or_pass-so_far.ensures.record_more))

-- ---- the end, or back up

pub shape_of-listing-then-here-eq0 : goal.shape_of-listing-then-here-eq0
shape_of-listing-then-here-eq0 c = long (c.loop-here.invariant unmarked 0).holds

pub shape_of-table-then-here-eq0 : goal.shape_of-table-then-here-eq0
shape_of-table-then-here-eq0 c = wide (c.loop-here.invariant unmarked 0).holds

pub shape_of-records-then-here-eq0 : goal.shape_of-records-then-here-eq0
shape_of-records-then-here-eq0 c = as_many (c.loop-here.invariant unmarked 0).holds

pub returns-then-here-eq0 : goal.returns-then-here-eq0
returns-then-here-eq0 c = λ m b. flat_whole (c.loop-here.invariant m b) (omega (arith, c.if-here.false)) c.if-here-eq0.true

pub overflow_sub-here : goal.overflow_sub-here
overflow_sub-here c = omega (arith, c.if-here-eq0.false)

pub back_to-here-requires : goal.back_to-here-requires
back_to-here-requires c =
    let flat = c.loop-here.invariant unmarked 0 in
    let popped = flat_pop flat (omega (arith, c.if-here.false)) c.if-here-eq0.false in
    record { up_bound = omega (arith, flat.shallow, c.if-here-eq0.false); lies_below = popped.above; lies_below_2 = popped.lies }

pub loop-here-smaller : goal.loop-here-smaller
loop-here-smaller c =
    let up = back_up c.args.file.now c.args.stop c.loop-here.way (c.loop-here.here.up - 1) in
    omega (arith, c.if-here-eq0.false, ap (λ (h : Cursor). h.up) c.back_to-here.ensures, up)

pub loop-here-preserved : goal.loop-here-preserved
loop-here-preserved c =
    λ m b. rw c.back_to-here.ensures
    (flat_pop (c.loop-here.invariant m b) (omega (arith, c.if-here.false)) c.if-here-eq0.false).goes_back
