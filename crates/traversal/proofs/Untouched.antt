-- Where nothing is listed, listing and records are as they were; and so is all that is lent, where a walk is refused before the trail.
use Rattle.std.specs.Prelude.{Err}
use Prim.Native.Nat.{ℕ, ◌/◌}
use mathlib.Core.Bool.{and-false}
use mathlib.Core.List.{List, []}
use mathlib.Core.Path.{◌≡◌, refl, sym}
use native.Mathlib.Omega.{arith}
use lib.ListN.{length, take}
use lib.Seq.{take-nil}
use Rattle.refusal.specs.declared.Refusal.{Refusal}
use Rattle.refusal.specs.Check.{either, on_answer}
use Rattle.buffer.proofs.Laws.{over_none, length_over}
use Rattle.context.specs.Entry.{Entry, words_each}
use Rattle.traversal.specs.declared.Walked.TheVariants.{Refused}
use Rattle.traversal.specs.Traversal.{Marks, refused}
use Rattle.traversal.specs.Walk.{walk_check, trail_from, walk_of, mark_passed, walked_of, listing_with, words_of, records_with, table_after, mark_after, Slices, ask_with, LeavesFrom, itself}
use Rattle.traversal.proofs.Cut.{truncate_short}

pub nothing_listed : (was : List ℕ) (l : List Entry) → l ≡ [] → listing_with l was ≡ was
unfolding listing_with
nothing_listed was l e = rw e (over_none was 0)

pub nothing_recorded : (was : List ℕ) (l : List Entry) → l ≡ [] → records_with l was ≡ was
unfolding records_with words_of
nothing_recorded was l e = rw (e, take-nil) (over_none was 0)

-- however many are
pub length_records : (was : List ℕ) (l : List Entry) → length (records_with l was) ≡ length was
unfolding records_with
length_records was l = length_over was 0 (words_of (take (length was / words_each) l))

pub refused_untouched : (file : List ℕ) (m : Marks) (was : Slices) (r : Refusal) → walk_check (ask_with file m was) ≡ Err r
    → LeavesFrom itself file m was (Refused r 0) was
unfolding walk_of trail_from table_after mark_after mark_passed on_answer walked_of either
refused_untouched file m was r e =
    let none : walk_of (ask_with file m was) ≡ refused r [] = rw e (truncate_short (length was.listing) (refused r []) (omega arith)) in
    record {
      answers = rw none;
      lists = rw none (sym (nothing_listed was.listing [] refl));
      fills = rw e;
      recorded = rw none (sym (nothing_recorded was.records [] refl));
      marked = rw (e, and-false m.asks);
    }
