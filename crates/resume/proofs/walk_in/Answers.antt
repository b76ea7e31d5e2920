-- From the roots, if there are any.
use native.Mathlib.Omega.{arith}
use Rattle.context.specs.Sound.{targets_in}
use Rattle.mark.specs.Mark.{decode, path_in}
use Rattle.traversal.specs.Walk.{slices}
use Rattle.visit.proofs.Lie.{roots-header}
use Rattle.resume.proofs.Opened.{RootsRead, roots_inside, clear_again, no_roots, from-roots}
use Rattle.resume.proofs.walk_in.Goals as goal
use Rattle.resume.proofs.walk_in.Goals.{Else-bytes-eq0}

pub load_u64-bytes-requires : goal.load_u64-bytes-requires
load_u64-bytes-requires c = omega (arith, roots-header c.args.file.now c.requires.sections)

pub overflow_add-at : goal.overflow_add-at
overflow_add-at c = omega (arith, roots-header c.args.file.now c.requires.sections)

pub load_u64-place-requires : goal.load_u64-place-requires
load_u64-place-requires c = omega (arith, roots-header c.args.file.now c.requires.sections)

-- where there are roots
roots : (c : Else-bytes-eq0)
    → RootsRead c.args.file.now (slices c.args.listing.now c.args.table.now c.args.records.now) c.args.sections.now
    (targets_in c.targets_of-targets.result) c.load_u64-place.result c.load_u64-bytes.result c.clear.new.out
roots c = record {
  opened = c.requires.sections;
  targets_are = c.targets_of-targets.ensures;
  place_is = c.load_u64-place.ensures;
  size_is = c.load_u64-bytes.ensures;
  clear = c.clear.ensures;
}

pub returns-then-bytes-eq0 : goal.returns-then-bytes-eq0
returns-then-bytes-eq0 c =
    let none : RootsRead c.args.file.now (slices c.args.listing.now c.args.table.now c.args.records.now) c.args.sections.now
    (targets_in c.targets_of-targets.result) c.load_u64-place.result c.load_u64-bytes.result c.clear.new.out =
    record {
      opened = c.requires.sections;
      targets_are = c.targets_of-targets.ensures;
      place_is = c.load_u64-place.ensures;
      size_is = c.load_u64-bytes.ensures;
      clear = c.clear.ensures;
    } in
    no_roots none (path_in (decode c.args.mark.now)) c.first_mark.result c.args.way.now c.if-bytes-eq0.true
    (rw (← c.depth.ensures) c.first_mark.ensures) c.requires.way_value

pub overflow_add-end : goal.overflow_add-end
overflow_add-end c = omega (arith, roots_inside (roots c) c.if-bytes-eq0.false)

pub contexts-requires : goal.contexts-requires
contexts-requires c =
    let some = roots (goal.at.contexts-requires c).Else-bytes-eq0 in
    record {
      at_nonzero = roots_inside some c.if-bytes-eq0.false;
      mark_value = c.requires.mark_value;
      table_value = (clear_again some, c.requires.way_value);
    }

pub returns : goal.returns
returns c =
    from-roots (roots (goal.at.returns c).Else-bytes-eq0) (path_in (decode c.args.mark.now)) c.contexts.result
    (slices c.contexts.new.listing c.contexts.new.table c.contexts.new.records) c.contexts.new.way c.contexts.ensures
