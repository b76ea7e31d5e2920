-- A walk without a mark, with none asked for, is the traversal truncated to the listing's words: no mark is that of depth 0, which is always
-- passed and passes over nothing. So it has reached what it lists.
use Rattle.std.specs.Prelude.{Err}
use Prim.Native.Nat.{ℕ}
use mathlib.Core.List.{List, [], ◌++◌}
use mathlib.Core.Path.{◌≡◌, refl, sym, ap, ◌∙◌}
use lib.ListN.{length, take}
use Rattle.refusal.specs.Check.{either, rule, if_passed, Check, on_answer, Passed}
use Rattle.refusal.proofs.Checks.{first_passed}
use Rattle.open.specs.Format.{meta}
use Rattle.open.specs.Opening.{opening, pairs, on_opened}
use Rattle.buffer.proofs.Laws.{over_none}
use Rattle.mark.specs.Mark.{decode, is_named, path_in}
use Rattle.context.specs.Context.{targets_of}
use Rattle.context.specs.Entry.{Entry}
use Rattle.traversal.specs.Traversal.{Lengths, Asked, ask, Outcome, on, refused, list_of, endless, from_roots, traversal}
use Rattle.traversal.specs.From.{up_to_mark}
use Rattle.traversal.specs.declared.Walked.{Walked}
use Rattle.traversal.specs.Walk.{truncate, walk_check, trail_from, walk_of, reached, walked_of, listing_with, table_with, words_of, records_with, table_after, mark_after, slices, slices_with_mark, unmarked, Leaves, itself}
use Rattle.traversal.proofs.Cut.{truncate_whole}
use Rattle.traversal.proofs.Trail.{trail_same}
use Rattle.traversal.proofs.From.{root_skipped, root_passed, from_root}
use Rattle.traversal.proofs.Join.{up_to_passed, reached_passed}

module _ (file : List ℕ) (n : Lengths) where
  abbrev a : Asked
  a = ask file unmarked n

  pub unmarked_check : walk_check a ≡ opening meta file
  unfolding walk_check rule decode is_named
  unmarked_check = first_passed (opening meta file)

  unmarked_trail : trail_from a ≡ traversal a
  unfolding trail_from traversal on_opened on_answer decode path_in
  unmarked_trail = rw (unmarked_check, from_root (traversal a)) (go (opening meta file) (from_roots (endless a (targets_of file (pairs meta file)))))
    where
      go : (v : Check) (o : Outcome) → if_passed (λ r. refused r []) v (if_passed (λ r. refused r []) v o) ≡ if_passed (λ r. refused r []) v o
      go Passed o = refl
      go (Err r) o = refl

  pub unmarked_walk : walk_of a ≡ truncate n.words (traversal a)
  unfolding walk_of
  unmarked_walk = ap (truncate n.words) unmarked_trail

  -- one that lists all has the whole trail
  pub unmarked_whole : (l : List Entry) → walk_of a ≡ on l → traversal a ≡ on l
  unmarked_whole l e = truncate_whole n.words (traversal a) l (sym unmarked_walk ∙ e)

  pub unmarked_reached : opening meta file ≡ Passed → reached a ≡ list_of (walk_of a)
  unfolding decode path_in
  unmarked_reached h =
      let l : List Entry = list_of (traversal a) in
      let none : up_to_mark [] l ≡ [] = up_to_passed [] l (root_passed l) ∙ ap (λ (k : ℕ). take k l) (root_skipped l) in
      reached_passed a (unmarked_check ∙ h) (root_passed l) ∙ ap (λ (m : List Entry). m ++ list_of (walk_of a)) none

  pub unmarked_mark : (was : List ℕ) → mark_after a was ≡ was
  unfolding mark_after either
  unmarked_mark was = refl

  pub unmarked_table : (was : List ℕ) → table_after a was ≡ on_opened (λ r. was) meta file (λ ps. table_with (list_of (walk_of a)) (length was))
  unfolding table_after on_opened on_answer
  unmarked_table was = rw unmarked_check (go (opening meta file) refl)
    where
      go : (v : Check) → opening meta file ≡ v
          → if_passed (λ r. was) v (table_with (reached a) (length was)) ≡ if_passed (λ r. was) v (table_with (list_of (walk_of a)) (length was))
      go Passed e = ap (λ (l : List Entry). table_with l (length was)) (unmarked_reached e)
      go (Err r) e = refl

-- ---- without lent memory that such a walk leaves alone

-- for a mark
pub no_marks : {file listing table records mark listing' table' records' mark' : List ℕ} {r : Walked}
    → Leaves itself file (slices_with_mark listing table records mark) r (slices_with_mark listing' table' records' mark')
    → Leaves itself file (slices listing table records) r (slices listing' table' records')
no_marks {file} {listing} {table} {records} {mark} l = record {
  answers = l.answers ∙ ap walked_of same;
  lists = l.lists ∙ ap (λ (o : Outcome). listing_with (list_of o) listing) same;
  fills = l.fills ∙ unmarked_table file (with (length mark)) table
      ∙ ap (λ (o : Outcome). on_opened (λ r. table) meta file (λ ps. table_with (list_of o) (length table))) same ∙ sym (unmarked_table file (with 0) table);
  recorded = l.recorded ∙ ap (λ (o : Outcome). records_with (list_of o) records) same;
  marked = sym (unmarked_mark file (with 0) []);
}
  where
    with : ℕ → Lengths
    with n = record { words = length listing; slots = length table; bytes = n }

    same : walk_of (ask file unmarked (with (length mark))) ≡ walk_of (ask file unmarked (with 0))
    same =
        unmarked_walk file (with (length mark))
        ∙ ap (truncate (length listing)) (trail_same file unmarked unmarked (with (length mark)) (with 0) refl) ∙ sym (unmarked_walk file (with 0))

-- for records
pub no_records : {file listing table listing' table' none none' : List ℕ} {r : Walked}
    → Leaves itself file (slices listing table none) r (slices listing' table' none')
    → Leaves itself file (slices listing table []) r (slices listing' table' [])
unfolding records_with words_of
no_records l = record { answers = l.answers; lists = l.lists; fills = l.fills; recorded = sym (over_none [] 0); marked = l.marked }
