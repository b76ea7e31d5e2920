-- What a walk from a mark leaves, by what was visited: where the mark was passed, the contexts after it, their slots with those before
-- them, and the mark of the last; where it was not, an empty table and 18 or the refusal that came first.
use Rattle.std.specs.Prelude.{Err}
use Prim.Native.Nat.{ℕ, zero, suc, ◌<◌}
use mathlib.Core.Bool.{Bool, true, false, ◌&&◌, ◌||◌, not, and-true, and-false, true≢false}
use mathlib.Core.List.{List, []}
use mathlib.Core.Path.{◌≡◌, refl, sym, ap, ◌∙◌}
use native.Mathlib.Omega.{arith}
use borrow.Author.Tests.{le-leb, lt-leb, ltb-true, ltb-false}
use lib.Dec.{leb, ltb}
use lib.ListN.{length, replicate}
use Rattle.refusal.specs.declared.Refusal.{Refusal}
use Rattle.refusal.specs.declared.Refusal.TheVariants as No
use Rattle.refusal.specs.Check.{either, rule, first, on_answer, Passed}
use Rattle.buffer.specs.Over.{over}
use Rattle.layout.specs.Octets.{Octets}
use Rattle.open.specs.Format.{meta, u64}
use Rattle.open.specs.Names as Section
use Rattle.open.specs.Opening.{field, place_in, opening, pairs}
use Rattle.open.specs.Kept.{Sections}
use Rattle.context.specs.Context.{targets_of}
use Rattle.context.specs.Entry.{Entry}
use Rattle.mark.specs.Mark.{mark_room, encode, decode, is_named, path_in, Encodable}
use Rattle.traversal.specs.declared.Walked.{Walked}
use Rattle.traversal.specs.declared.Walked.TheVariants.{Refused}
use Rattle.traversal.specs.Traversal.{Marks, Asked, Outcome, on, cut, refused, list_of, from_roots}
use Rattle.traversal.specs.From.{is_passed, after_mark, with_list, unpassed, from_mark, last_path, marks_from, limited_from}
use Rattle.traversal.specs.Walk.{walk_check, walk_of, new_path, reached, walked_of, listing_with, slots_with, table_with, records_with, table_after, mark_after, Slices, slices, slices_with_mark, ask_with, marks_with, LeavesFrom, itself}
use Rattle.traversal.proofs.From.{from_passed, from_unpassed, list_from}
use Rattle.traversal.proofs.Passing.{marks_passed, marks_unpassed, after_length}
use Rattle.traversal.proofs.Places.{last_all}
use Rattle.traversal.proofs.Small.{visited_encodable}
use Rattle.traversal.proofs.Untouched.{refused_untouched}
use Rattle.traversal.proofs.Visited.{VisitedBy, visited}
use Rattle.resume.specs.Way.{Leads, MarkPut}
use Rattle.resume.specs.State.{counted_end, Ended, AllDone, marks_in, answer_of}
use Rattle.resume.proofs.Slices.{wide}

-- ---- the answer

-- the end with the contexts after the mark counted
answer_passed : (path : List ℕ) (o : Outcome) (n : ℕ) → marks_from path (list_of o) ≡ suc n → length (after_mark path (list_of o)) ≡ n
    → answer_of (counted_end path o) ≡ walked_of (with_list o (after_mark path (list_of o)))
unfolding answer_of counted_end walked_of
answer_passed path (on l) n e a = rw (e, a)
answer_passed path (cut l) n e a = rw (e, a)
answer_passed path (refused r l) n e a = rw (e, a)

answer_unpassed : (path : List ℕ) (o : Outcome) → marks_from path (list_of o) ≡ 0 → answer_of (counted_end path o) ≡ walked_of (unpassed o)
unfolding answer_of counted_end walked_of
answer_unpassed path (on l) e = rw e
answer_unpassed path (cut l) e = rw e
answer_unpassed path (refused r l) e = rw e

answer_is : (path : List ℕ) (o : Outcome) → answer_of (counted_end path o) ≡ walked_of (from_mark path o)
answer_is path o = go (marks_from path (list_of o)) refl
  where
    go : (k : ℕ) → marks_from path (list_of o) ≡ k → answer_of (counted_end path o) ≡ walked_of (from_mark path o)
    go zero e = answer_unpassed path o e ∙ ap walked_of (sym (from_unpassed path o ((marks_unpassed path (list_of o)).0 e)))
    go (suc n) e =
        let some : 0 < marks_from path (list_of o) = omega arith in
        answer_passed path o n e (omega (arith, after_length path (list_of o) some))
        ∙ ap walked_of (sym (from_passed path o ((marks_passed path (list_of o)).0 some)))

-- the marks that an answer counts are those of the contexts visited
marks-of : (path : List ℕ) (o : Outcome) → marks_in (counted_end path o) ≡ marks_from path (list_of o)
unfolding counted_end
marks-of path (on l) = refl
marks-of path (cut l) = refl
marks-of path (refused r l) = refl

-- ---- refused before the trail

-- the test of the room for a new mark
room_broken : (asks : Bool) (n : ℕ) → asks && ltb n mark_room ≡ true → not asks || leb mark_room n ≡ false
room_broken true n h = lt-leb mark_room n (ltb-true n mark_room h)
room_broken false n h = absurd (true≢false (sym h))

pub room_kept : (asks : Bool) (n : ℕ) → asks && ltb n mark_room ≡ false → not asks || leb mark_room n ≡ true
room_kept true n h = le-leb mark_room n (ltb-false n mark_room h)
room_kept false n h = refl

module _ (file : List ℕ) (m : Marks) (was : Slices) where
  room_refused : not m.asks || leb mark_room (length was.mark) ≡ false → walk_check (ask_with file m was) ≡ Err No.Room
  unfolding walk_check rule
  room_refused h = rw h

  room_passed : not m.asks || leb mark_room (length was.mark) ≡ true
      → walk_check (ask_with file m was) ≡ first (opening meta file) (rule (is_named (decode m.given)) No.Mark)
  unfolding walk_check rule
  room_passed h = rw h

  pub no_room : m.asks && ltb (length was.mark) mark_room ≡ true → LeavesFrom itself file m was (Refused No.Room 0) was
  no_room h = refused_untouched file m was No.Room (room_refused (room_broken m.asks (length was.mark) h))

  pub refused_by : (r : Refusal) → m.asks && ltb (length was.mark) mark_room ≡ false
      → first (opening meta file) (rule (is_named (decode m.given)) No.Mark) ≡ Err r → LeavesFrom itself file m was (Refused r 0) was
  refused_by r h e = refused_untouched file m was r (room_passed (room_kept m.asks (length was.mark) h) ∙ e)

-- ---- by what was visited

-- a walk of an opened file from a well-formed mark, with room for a new one where it is asked for
pub record Walking (file mark : List ℕ) (asks : Bool) (was : Slices) (ps : List (List ℕ)) (w : Walked) (s : Slices) (way : List ℕ) : Type 0 where
  pub opened : Sections meta file ps
  pub well : is_named (decode mark) ≡ true
  pub roomy : not asks || leb mark_room (length was.mark) ≡ true
  pub done : AllDone file ps (path_in (decode mark)) (slices was.listing was.table was.records) w s way

module _ {file mark : List ℕ} {asks : Bool} {was : Slices} {ps : List (List ℕ)} {w : Walked} {s : Slices} {way : List ℕ}
    (v : Walking file mark asks was ps w s way) where
  abbrev q : Asked
  q = ask_with file (marks_with mark asks) was

  abbrev path : List ℕ
  path = path_in (decode mark)

  abbrev seen : Outcome
  seen = from_roots (limited_from path q (targets_of file (pairs meta file)))

  abbrev place : ℕ
  place = field file (place_in ps Section.context) (u64 8)

  ended : Ended file place path (slices was.listing was.table was.records) seen w s way
  ended = rw (← v.opened.same) (v.done (marks_with mark asks) (length was.mark))

  checked : walk_check q ≡ Passed
  unfolding walk_check rule
  checked = rw (v.roomy, v.opened.passed, v.well)

  by : VisitedBy q seen
  by = visited q checked

  counted : marks_in w ≡ marks_from path (list_of seen)
  counted = ap marks_in ended.says ∙ marks-of path seen

  answered : answer_of w ≡ walked_of (walk_of q)
  answered = ap answer_of ended.says ∙ answer_is path seen ∙ ap walked_of (sym by.walk)

  after_is : after_mark path (list_of seen) ≡ list_of (walk_of q)
  after_is = sym (ap list_of by.walk ∙ list_from path seen)

  listed_is : s.listing ≡ listing_with (list_of (walk_of q)) was.listing
  listed_is = ended.holds.listed ∙ ap (λ (l : List Entry). listing_with l was.listing) after_is

  recorded_is : s.records ≡ records_with (list_of (walk_of q)) was.records
  recorded_is = ended.holds.recorded ∙ ap (λ (l : List Entry). records_with l was.records) after_is

  table_is : table_after q was.table ≡ table_with (reached q) (length was.table)
  unfolding table_after on_answer
  table_is = rw checked

  -- the mark is not passed
  pub leaves_none : marks_in w ≡ 0 → (table : List ℕ) → table ≡ replicate (length s.table) 0
      → LeavesFrom itself file (marks_with mark asks) was (answer_of w) (slices_with_mark s.listing table s.records was.mark)
  unfolding mark_after either table_with slots_with
  leaves_none z table e =
      let not_passed : is_passed path (list_of seen) ≡ false = (marks_unpassed path (list_of seen)).0 (sym counted ∙ z) in
      record {
        answers = answered;
        lists = listed_is;
        fills = e ∙ rw (wide ended.holds) (sym (table_is ∙ ap (λ (l : List Entry). table_with l (length was.table)) (by.empty not_passed)));
        recorded = recorded_is;
        marked = rw (by.passing, not_passed, and-false asks);
      }

  -- it is
  module _ (z : marks_in w ≡ 0 → ⊥) where
    passed : is_passed path (list_of seen) ≡ true
    passed = (marks_passed path (list_of seen)).0 (omega (arith, counted, z))

    leaves_by : (new : List ℕ) → new ≡ either asks (over was.mark 0 (encode (new_path q))) was.mark
        → LeavesFrom itself file (marks_with mark asks) was (answer_of w) (slices_with_mark s.listing s.table s.records new)
    unfolding mark_after
    leaves_by new e = record {
      answers = answered;
      lists = listed_is;
      fills = ended.holds.filled ∙ sym (table_is ∙ ap (λ (l : List Entry). table_with l (length was.table)) (by.filled passed));
      recorded = recorded_is;
      marked = e ∙ rw (by.passing, passed) (ap (λ (b : Bool). either b (over was.mark 0 (encode (new_path q))) was.mark) (sym (and-true asks)));
    }

    pub leaves_unasked : asks ≡ false
        → LeavesFrom itself file (marks_with mark asks) was (answer_of w) (slices_with_mark s.listing s.table s.records was.mark)
    unfolding either
    leaves_unasked e = leaves_by was.mark (rw e)

    module _ (octets : Octets file) where
      encodable : Encodable (last_path [] (list_of seen))
      encodable =
          last_all Encodable [] (list_of seen) (record { shallow = omega arith; small = tt })
          (visited_encodable q (targets_of file (pairs meta file)) path octets)

      -- there is a context that the way leads to, and its mark is the new one
      pub leads : Leads file place way
      leads = (last_path [] (list_of seen), ended.last, encodable)

      pub leaves_asked : (new : List ℕ) → asks ≡ true → MarkPut file place way was.mark new
          → LeavesFrom itself file (marks_with mark asks) was (answer_of w) (slices_with_mark s.listing s.table s.records new)
      unfolding either
      leaves_asked new e put =
          leaves_by new
          (put (last_path [] (list_of seen)) ended.last encodable ∙ ap (λ (x : List ℕ). over was.mark 0 (encode x)) (sym (by.path passed))
          ∙ sym (ap (λ (b : Bool). either b (over was.mark 0 (encode (new_path q))) was.mark) e))
