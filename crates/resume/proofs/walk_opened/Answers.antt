-- By whether the mark was passed, and a new one is asked for.
use Prim.Native.Nat.{ℕ, ◌≤◌}
use mathlib.Core.Bool.{Bool, true, false, ◌||◌, not, true≢false}
use mathlib.Core.Path.{◌≡◌, sym, ◌∙◌}
use native.Mathlib.Omega.{arith}
use borrow.Author.Tests.{leb-true}
use lib.Dec.{leb}
use Rattle.open.specs.Opening.{field}
use Rattle.mark.specs.Mark.{mark_room}
use Rattle.traversal.specs.Walk.{slices, slices_with_mark}
use Rattle.visit.proofs.Lie.{roots-header}
use Rattle.resume.specs.State.{marks_in}
use Rattle.resume.proofs.Leaving.{Walking, leaves_none, leaves_unasked, leads, leaves_asked}
use Rattle.resume.proofs.walk_opened.Goals as goal
use Rattle.resume.proofs.walk_opened.Goals.{After-marks_in-k}

-- where the walk has ended
walking : (c : After-marks_in-k)
    → Walking c.args.file.now c.args.mark.now c.args.asks
    (slices_with_mark c.args.listing.now c.args.table.now c.args.records.now c.args.new_mark.now) c.args.sections.now
    c.walk_in-walked.result (slices c.walk_in-walked.new.listing c.walk_in-walked.new.table c.walk_in-walked.new.records)
    c.walk_in-walked.new.way
walking c = record {
  opened = c.requires.sections;
  well = c.requires.mark_value;
  roomy = c.requires.new_mark_value;
  done = c.walk_in-walked.ensures;
}

-- the mark is passed
passed : (c : After-marks_in-k) → (c.marks_in-k.result ≡ 0 → ⊥) → marks_in c.walk_in-walked.result ≡ 0 → ⊥
passed c n z = n (c.marks_in-k.ensures ∙ z)

-- room for a mark, where one is asked for
room_asked : (asks : Bool) (n : ℕ) → asks ≡ true → not asks || leb mark_room n ≡ true → mark_room ≤ n
room_asked true n e h = leb-true mark_room n h
room_asked false n e h = absurd (true≢false (sym e))

pub returns-then-k-eq0 : goal.returns-then-k-eq0
returns-then-k-eq0 c =
    rw c.answer_of.ensures
    (leaves_none (walking (goal.at.returns-then-k-eq0 c).After-marks_in-k) (sym c.marks_in-k.ensures ∙ c.if-k-eq0.true)
    c.clear.new.out c.clear.ensures)

pub overflow_add-at : goal.overflow_add-at
overflow_add-at c = omega (arith, roots-header c.args.file.now c.requires.sections)

pub load_u64-start-requires : goal.load_u64-start-requires
load_u64-start-requires c = omega (arith, roots-header c.args.file.now c.requires.sections)

pub put_mark-requires : goal.put_mark-requires
unfolding field
put_mark-requires c =
    let there = leads (walking (goal.at.put_mark-requires c).After-marks_in-k)
    (passed (goal.at.put_mark-requires c).After-marks_in-k c.if-k-eq0.false) (λ k. (c.type_inv.file k).fits) in
    record {
      leads = rw c.load_u64-start.ensures there;
      mark_room_in_bounds = room_asked c.args.asks _ c.if-asks.true c.requires.new_mark_value;
    }

pub returns-then-asks : goal.returns-then-asks
unfolding field
returns-then-asks c =
    rw c.answer_of-then-asks.ensures
    (leaves_asked (walking (goal.at.returns-then-asks c).After-marks_in-k) (passed (goal.at.returns-then-asks c).After-marks_in-k c.if-k-eq0.false)
    (λ k. (c.type_inv.file k).fits) c.put_mark.new.out c.if-asks.true
    (rw c.load_u64-start.ensures at c.put_mark.ensures))

pub returns : goal.returns
returns c =
    rw c.answer_of-2.ensures
    (leaves_unasked (walking (goal.at.returns c).After-marks_in-k) (passed (goal.at.returns c).After-marks_in-k c.if-k-eq0.false) c.if-asks.false)
