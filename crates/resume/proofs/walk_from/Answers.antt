-- The rules before the trail in their order; then the walk of an opened file.
use mathlib.Core.Path.{sym, ◌∙◌}
use lib.ListN.{length}
use Rattle.refusal.specs.declared.Refusal.TheVariants as No
use Rattle.refusal.proofs.Checks.{rule_broken, after_passed, after_refused}
use Rattle.open.specs.Format.{meta}
use Rattle.open.proofs.Answer.{told, sections}
use Rattle.traversal.specs.Walk.{slices_with_mark, marks_with}
use Rattle.resume.proofs.Leaving.{room_kept, no_room, refused_by}
use Rattle.resume.proofs.walk_from.Goals as goal

pub returns-then-asks-new_mark : goal.returns-then-asks-new_mark
returns-then-asks-new_mark c =
    let was = slices_with_mark c.args.listing.now c.args.table.now c.args.records.now c.args.new_mark.now in
    no_room c.args.file.now (marks_with c.args.mark.now c.args.asks) was c.if-asks-new_mark.true

pub returns-in-Err : goal.returns-in-Err
returns-in-Err c =
    let was = slices_with_mark c.args.listing.now c.args.table.now c.args.records.now c.args.new_mark.now in
    refused_by c.args.file.now (marks_with c.args.mark.now c.args.asks) was c.in-Err.r c.if-asks-new_mark.false
    (sym (after_refused _ (told meta _ (rw c.in-Err.is at c.open_meta.ensures))))

pub returns-then-not-well_formed : goal.returns-then-not-well_formed
returns-then-not-well_formed c =
    let was = slices_with_mark c.args.listing.now c.args.table.now c.args.records.now c.args.new_mark.now in
    let opened = sections {f = meta} {file = c.args.file.now} (rw c.in-Ok.is at c.open_meta.ensures) in
    refused_by c.args.file.now (marks_with c.args.mark.now c.args.asks) was No.Mark c.if-asks-new_mark.false
    (sym (after_passed opened.passed (sym (rule_broken No.Mark (sym c.well_formed-2.ensures ∙ c.if-not-well_formed.true)))))

pub walk_opened-requires : goal.walk_opened-requires
walk_opened-requires c =
    record {
      sections = sections (rw c.in-Ok.is at c.open_meta.ensures);
      mark_value = sym c.well_formed-2.ensures ∙ c.if-not-well_formed.false;
      new_mark_value = room_kept c.args.asks (length c.args.new_mark.now) c.if-asks-new_mark.false;
    }
