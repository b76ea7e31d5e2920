-- The whole walk: of an opened file, from its roots; of any other, nothing.
use Prim.Native.Nat.{ℕ, suc, ◌+◌}
use mathlib.Core.List.{List, []}
use mathlib.Core.Path.{◌≡◌, refl, sym, ◌∙◌}
use native.Mathlib.Omega.{arith}
use lib.ListN.{length, replicate}
use Rattle.le.specs.Number.{number}
use Rattle.refusal.specs.Check.{on_answer}
use Rattle.open.specs.Format.{meta}
use Rattle.open.specs.Names as Section
use Rattle.open.specs.Opening.{field, place_in, pairs, on_opened}
use Rattle.open.specs.Kept.{Sections}
use Rattle.context.specs.Context.{Targets, targets_of}
use Rattle.traversal.specs.declared.Walked.{Walked}
use Rattle.traversal.specs.declared.Walked.TheVariants.{Complete}
use Rattle.traversal.specs.Traversal.{Asked, Outcome, Parameters, limited, depth_limit, level, from_roots, traversal}
use Rattle.traversal.specs.Walk.{walk_of, Slices, slices, ask_with, unmarked, Leaves, itself}
use Rattle.traversal.proofs.Cut.{cuts_level}
use Rattle.traversal.proofs.Unmarked.{unmarked_walk, unmarked_table, unmarked_mark}
use Rattle.traversal.proofs.Steps.{rest_end, level_rest}
use Rattle.walk.specs.State.{Holds, Done, ArrayDoes}
use Rattle.walk.proofs.Slices.{start}
use Rattle.walk.proofs.Going.{done_complete}

module _ (file : List ℕ) {ps : List (List ℕ)} (o : Sections meta file ps) (t : Targets) (et : t ≡ targets_of file ps)
    (place bytes : ℕ) (ep : place ≡ number 8 file (place_in ps Section.context + 8)) (eb : bytes ≡ number 8 file (place_in ps Section.context + 0)) where
  module _ (listing table records : List ℕ) where
    abbrev was : Slices
    was = slices listing table records

    abbrev a : Asked
    a = ask_with file unmarked was

    abbrev E : Parameters
    E = limited a t

    abbrev roots : Outcome
    roots = level E (suc depth_limit) 0 [] place (place + bytes) []

    walk_is : walk_of a ≡ roots
    unfolding traversal from_roots on_opened on_answer field targets_of
    walk_is =
        let at = place_in (pairs meta file) Section.context in
        rw (unmarked_walk file a.lent, o.passed, ep, eb, et, o.same)
        (sym (cuts_level a (targets_of file (pairs meta file)) (suc depth_limit) 0 []
        (number 8 file (at + 8)) (number 8 file (at + 8) + number 8 file (at + 0)) [] (omega arith)))

    left : (r : Walked) (listing' table' records' : List ℕ) → Done was roots r (slices listing' table' records')
        → Leaves itself file was r (slices listing' table' records')
    unfolding on_opened on_answer
    left r listing' table' records' d = record {
      answers = rw walk_is d.says;
      lists = rw walk_is d.holds.listed;
      fills = rw (unmarked_table file a.lent table, o.passed, walk_is) d.holds.filled;
      recorded = rw walk_is d.holds.recorded;
      marked = sym (unmarked_mark file a.lent []);
    }

    module _ (cleared : List ℕ) (ec : cleared ≡ replicate (length table) 0) where
      abbrev begun : Slices
      begun = slices listing cleared records

      empty : Holds was [] begun 0
      empty = start was cleared ec

      pub no_roots : bytes ≡ 0 → Leaves itself file was (Complete 0) begun
      no_roots z =
          left (Complete 0) listing cleared records
          (done_complete was begun [] 0 empty roots
          (level_rest E depth_limit 0 [] place (place + bytes) []
          ∙ rest_end E (level E depth_limit) 0 [] 0 place (place + bytes) [] (omega arith)))

      pub from-roots : (r : Walked) (listing' table' records' : List ℕ)
          → ArrayDoes file t 1 0 place (place + bytes) 0 begun r (slices listing' table' records')
          → Leaves itself file was r (slices listing' table' records')
      from-roots r listing' table' records' does = left r listing' table' records' (does was [] [] refl empty)
